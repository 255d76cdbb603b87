-- What an autolink ends with.
use Rattle.std.proofs.Common.{◌≡◌, ℕ, ◌+◌, ◌-◌, ◌<◌, ◌≤◌, Bool, true, false, ◌&&◌, List, length, drop, get_or, Option, Some, None, refl, ap, ◌∙◌, arith, if◌then◌else◌}
use Rattle.std.specs.Prelude.{nat_lt}
use Rattle.mdscan.specs.Blanks.{begins_with}
use Rattle.std.specs.List.{prefix_len}
use Rattle.std.proofs.lemmas.Bool.{and_parts}
use Rattle.mdscan.specs.Repeats.{repeats}
use Rattle.mdscan.specs.Autolink.{autolink_at, uri_end, mail_end, auto_of, or_auto, in_uri, in_mail_name, scheme_length, domain_label_length, dotted_label_length}
use Rattle.mdscan.specs.declared.autolinks.Auto.{Auto}
use Rattle.mdinline.proofs.Marks.{mark_there}

-- before its end stands `>`
pub record Closes (text : List ℕ) (at end : ℕ) : Type 0 where
  pub start : at + 1 ≤ end - 1
  pub inside : end - 1 < length text
  pub mark : get_or text (end - 1) 0 < 128

if_true : {X : Type 0} (b : Bool) (x y : X) → Some y ≡ (if b then Some x else None) → (b ≡ true) × (y ≡ x)
if_true true x y e = (refl, (let same : y ≡ x = grind (arith, e) in same))
if_true false x y e = cc

close_at : (text : List ℕ) (at k end : ℕ) → at < k → end ≡ k + 1 → begins_with 62 (drop k text) ≡ true → Closes text at end
close_at text at k end later e h =
    let there = mark_there 62 text k h in
    let place : end - 1 ≡ k = omega (arith, e) in
    record {
      start = omega (arith, place, later);
      inside = omega (arith, place, there.0);
      mark = (let same : get_or text (end - 1) 0 ≡ 62 = ap (λ i. get_or text i 0) place ∙ there.1 in omega (arith, same));
    }

uri_closed : (text : List ℕ) (at end : ℕ) → Some end ≡ uri_end text at → Closes text at end
unfolding uri_end
uri_closed text at end e =
    let scheme = scheme_length (drop (at + 1) text) in
    let rest = prefix_len in_uri (drop (at + 1 + scheme + 1) text) in
    let k = at + 1 + scheme + 1 + rest in
    let found = if_true (nat_lt 0 scheme && begins_with 58 (drop (at + 1 + scheme) text) && begins_with 62 (drop k text)) (k + 1) end e in
    close_at text at k end (omega arith) found.1
    (and_parts (nat_lt 0 scheme && begins_with 58 (drop (at + 1 + scheme) text)) (begins_with 62 (drop k text)) found.0).1

mail_closed : (text : List ℕ) (at end : ℕ) → Some end ≡ mail_end text at → Closes text at end
unfolding mail_end
mail_closed text at end e =
    let name = prefix_len in_mail_name (drop (at + 1) text) in
    let label = domain_label_length (drop (at + 1 + name + 1) text) in
    let labels = repeats dotted_label_length (drop (at + 1 + name + 1 + label) text) in
    let k = at + 1 + name + 1 + label + labels in
    let found = if_true (nat_lt 0 name && begins_with 64 (drop (at + 1 + name) text) && nat_lt 0 label && begins_with 62 (drop k text)) (k + 1) end e in
    close_at text at k end (omega arith) found.1
    (and_parts (nat_lt 0 name && begins_with 64 (drop (at + 1 + name) text) && nat_lt 0 label) (begins_with 62 (drop k text)) found.0).1

of_kinds : (text : List ℕ) (at : ℕ) (auto : Auto) (u m : Option ℕ) → u ≡ uri_end text at → m ≡ mail_end text at → Some auto ≡ or_auto (auto_of false u) (auto_of true m) → Closes text at auto.end
of_kinds text at auto (Some end) m eu em e = uri_closed text at auto.end (ap Some (let same : auto.end ≡ end = grind (arith, e) in same) ∙ eu)
of_kinds text at auto None (Some end) eu em e = mail_closed text at auto.end (ap Some (let same : auto.end ≡ end = grind (arith, e) in same) ∙ em)
of_kinds text at auto None None eu em e = cc

if_some : {X : Type 0} (b : Bool) (o : Option X) (y : X) → Some y ≡ (if b then o else None) → Some y ≡ o
if_some true o y e = e
if_some false o y e = cc

pub closed : (text : List ℕ) (at : ℕ) (auto : Auto) → Some auto ≡ autolink_at text at → Closes text at auto.end
unfolding autolink_at
closed text at auto e = of_kinds text at auto (uri_end text at) (mail_end text at) refl refl (if_some _ _ auto e)
