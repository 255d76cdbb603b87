use Rattle.std.proofs.Common.{◌≡◌, ◌-◌, ◌∙◌, None, Some, arith, length, refl, rules, sym, subst, ap}
use Rattle.json.specs.Json.{read_key}
use Rattle.json.proofs.Grammar.{read_key-shorter}
use Rattle.serde_json.specs.Data.{no_members, put}
use Rattle.mdtext.specs.EntityReading.{members_at}
use Rattle.mdtext.specs.MemberTexts.{gathered, given_more}
use Rattle.mdtext.proofs.MemberOrder.{Gathers, gathers_more, gathers_none, table_gathered}
use Rattle.mdtext.proofs.TokenReading.{members_more_read, members_read, no_key_read, no_member_read}
use Rattle.mdtext.proofs.entity_reading.read_members.Goals as goal

pub loop-members-init : goal.loop-members-init
loop-members-init c = (length c.args.reader.now, omega arith, no_members, refl, subst (Gathers no_members) (sym c.new-members.ensures.none) gathers_none, c.new-members.ensures.held)

pub returns-in_err-key-clause-err : goal.returns-in_err-key-clause-err
returns-in_err-key-clause-err c =
    let l = c.loop-members in
    let unread : read_key l.reader ≡ None = grind arith in
    let none : members_at 126 c.args.reader.now ≡ None = no_key_read 126 c.args.reader.now l.invariant.0 l.reader l.invariant.2 l.invariant.3 unread in
    search (rules, none)

pub returns-in_default-pass_value-clause-err : goal.returns-in_default-pass_value-clause-err
returns-in_default-pass_value-clause-err c =
    let l = c.loop-members in
    let k = c.in-Some.key.now in
    let s = c.next_key.new.self in
    let named : read_key l.reader ≡ Some (Some k, s) = grind arith in
    λ other. (refl, no_member_read 126 c.args.reader.now l.invariant.0 l.reader l.invariant.2 l.invariant.3 s k named (c.pass_value.ensures.err (grind arith)))

pub loop-members-preserved : goal.loop-members-preserved
loop-members-preserved c =
    let l = c.loop-members in
    let n = l.invariant.0 in
    let found = l.invariant.2 in
    let k = c.in-Some.key.now in
    let s = c.next_key.new.self in
    let named : read_key l.reader ≡ Some (Some k, s) = grind arith in
    let r = c.pass_value.new.reader in
    let less = read_key-shorter l.reader (Some k) s named in
    let done = c.in-Ok.ensures in
    let d = done.ok.0 in (
      n - 1,
      omega (arith, l.invariant.1, less, done.shorter),
      put k d found,
      members_more_read 126 c.args.reader.now n l.reader found l.invariant.3 s r k d (omega (arith, l.invariant.1, less)) named done.ok.1,
      subst (Gathers (put k d found)) (sym (c.in_ok-add.ensures.more ∙ ap (λ t. given_more k t (gathered l.members)) done.ok.3)) (gathers_more k d found (gathered l.members) l.invariant.4),
      c.in_ok-add.ensures.held,
    )

pub returns-clause-ok : goal.returns-clause-ok
returns-clause-ok c =
    let l = c.loop-members in
    (l.invariant.2, members_read 126 c.args.reader.now l.invariant.0 l.reader l.invariant.2 l.invariant.3 c.next_key.new.self l.invariant.1 (grind arith), table_gathered l.invariant.2 (gathered l.members) l.invariant.4)
