use Rattle.std.proofs.Common.{◌≡◌, ◌∷◌, ◌∙◌, [], Some, ap, arith, refl, rules, sym}
use Rattle.json.specs.Reads.{token_of}
use Rattle.json.specs.Token.{Token}
use Rattle.mdtext.proofs.TokenReading.{object_and_more, object_read, object_refused, opens_object, other_value}
use Rattle.mdtext.proofs.entity_reading.read_file.Goals as goal

pub returns-in_default-clause-err : goal.returns-in_default-clause-err
returns-in_default-clause-err c =
    let empty : c.args.reader.now ≡ [] = grind arith in
    λ other. (refl, other_value c.args.reader.now (λ inner e. cc))

pub returns-in_default-token : goal.returns-in_default-token
returns-in_default-token c =
    let first : c.args.reader.now ≡ token_of c.in-Some.token ∷ c.next.new.self = c.in-Some.ensures.value in
    record {
      held = tt;
      ok = tt;
      err = λ other. (refl, other_value c.args.reader.now (λ inner e. c.in_default-token.not-BeginObject (opens_object c.in-Some.token c.next.new.self inner (sym first ∙ e))));
    }

pub returns-in_err-members-clause-err : goal.returns-in_err-members-clause-err
returns-in_err-members-clause-err c =
    let first : c.args.reader.now ≡ Token.begin_object ∷ c.next.new.self = grind arith in
    let refused = object_refused c.args.reader.now c.next.new.self first in
    search (rules, refused)

pub returns-in-Some-next-clause-err : goal.returns-in-Some-next-clause-err
returns-in-Some-next-clause-err c =
    let first : c.args.reader.now ≡ Token.begin_object ∷ c.next.new.self = grind arith in
    let found = c.in_ok-members.ensures.ok in
    λ other. (refl, object_and_more c.args.reader.now c.next.new.self found.0 (token_of c.in-Some-next.field-0) c.next-2.new.self first (found.1 ∙ ap (λ r. Some (found.0, r)) c.in-Some-next.ensures.value))

pub returns-in-None-clause-ok : goal.returns-in-None-clause-ok
returns-in-None-clause-ok c =
    let first : c.args.reader.now ≡ Token.begin_object ∷ c.next.new.self = grind arith in
    let over : c.read_members.new.reader ≡ [] = grind arith in
    let found = c.in_ok-members.ensures.ok in
    (found.0, object_read c.args.reader.now c.next.new.self found.0 first (found.1 ∙ ap (λ r. Some (found.0, r)) over), found.2)
