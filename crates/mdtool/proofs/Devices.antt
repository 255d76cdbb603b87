-- Bytes that a device takes or gives in several calls.
use Rattle.std.proofs.Common.{◌≡◌, ℕ, ◌+◌, ◌-◌, List, [], ◌++◌, take, drop, length, length-drop, Option, Some, None, refl, ap, sym, subst, ◌∙◌, append_assoc, arith}
use Rattle.std.proofs.Math.Seq.{take-add}
use Rattle.std.proofs.lemmas.Result.{err_from_is_err_and}
use Rattle.std.proofs.lemmas.List.{take_all}
use Rattle.std.specs.Prelude.{Bool, Result, true, false}
use Rattle.std.specs.Result.{IsErrAnd, is_ok}
use Rattle.mdtool.specs.Bytes.{Gains, GainsFront, Takes, Puts}

gains_on : (a b c : Option (List ℕ)) (front more : List ℕ) → Gains a front b → Gains b more c → Gains a (front ++ more) c
gains_on None None c front more first second = second
gains_on None (Some b) c front more first second = cc
gains_on (Some a) None c front more first second = cc
gains_on (Some a) (Some b) c front more first second =
    let same : b ≡ a ++ front = cc in
    second ∙ (rw (same, append_assoc) refl)

pub gains_more : (a b c : Option (List ℕ)) (front more : List ℕ) → Gains a front b → Gains b more c → Gains a (front ++ more) c
gains_more = gains_on

-- where nothing more was written
pub gains_same : (a b c : Option (List ℕ)) (front : List ℕ) → Gains a front b → c ≡ b → Gains a front c
gains_same a b c front first same = subst (λ (w : Option (List ℕ)). Gains a front w) (sym same) first

-- the next n of the rest go on from the first
pub take_on : (at n : ℕ) (bytes : List ℕ) → take (at + n) bytes ≡ take at bytes ++ take n (take (length bytes - at) (drop at bytes))
take_on at n bytes = take-add at n bytes ∙ ap (λ xs. take at bytes ++ take n xs) (sym (take_all (length bytes - at) (drop at bytes) (omega (arith, length-drop at bytes))))

-- taking nothing leaves what was left
pub takes_nothing : (left : Option (List ℕ)) → Takes left [] left
takes_nothing None = refl
takes_nothing (Some left) = (left, refl, refl)

takes_on : (a b c : Option (List ℕ)) (x y : List ℕ) → Takes a x b → Takes b y c → Takes a (x ++ y) c
takes_on None None c x y first second = second
takes_on None (Some b) c x y first second = cc
takes_on (Some a) None c x y first second = let e = first.1 in cc
takes_on (Some a) (Some b) c x y first second =
    let same : b ≡ first.0 = let e = first.1 in cc in
    (second.0, second.1, first.2 ∙ (rw (← same, second.2, append_assoc) refl))

pub takes_more : (a b c : Option (List ℕ)) (x y : List ℕ) → Takes a x b → Takes b y c → Takes a (x ++ y) c
takes_more = takes_on

-- what one call wrote and then a beginning of what another was to write is a beginning of both
pub front_more : (a b c : Option (List ℕ)) (front more : List ℕ) → Gains a front b → GainsFront b more c → GainsFront a (front ++ more) c
front_more a b c front more first second = (
  front ++ second.0,
  second.1,
  ap (λ xs. front ++ xs) second.2 ∙ sym (append_assoc front second.0 second.1),
  gains_more a b c front second.0 first second.3,
)

-- a beginning of the first part is one of the whole
pub front_of_first : (a b : Option (List ℕ)) (front more : List ℕ) → GainsFront a front b → GainsFront a (front ++ more) b
front_of_first a b front more first = (
  first.0,
  first.1 ++ more,
  ap (λ xs. xs ++ more) first.2 ∙ append_assoc first.0 first.1 more,
  first.3,
)

-- a first text was put, and then a second or a beginning of it
pub puts_more : (a b c : Option (List ℕ)) (f g h : ℕ) (front more : List ℕ) (whole : Bool) → Puts a f front true b g → Puts b g more whole c h → Puts a f (front ++ more) whole c h
puts_more a b c f g h front more true first second = (gains_more a b c front more first.0 second.0, second.1 ∙ first.1)
puts_more a b c f g h front more false first second = (front_more a b c front more first.0 second.0, second.1 ∙ ap (λ n. n + 1) first.1)

-- a first text was put in part, and nothing behind it
pub puts_less : (a b : Option (List ℕ)) (f g : ℕ) (front more : List ℕ) → Puts a f front false b g → Puts a f (front ++ more) false b g
puts_less a b f g front more first = (front_of_first a b front more first.0, first.1)

-- the same of a text that is given by its parts
pub puts_then : (a b c : Option (List ℕ)) (f g h : ℕ) (whole : Bool) (front more text : List ℕ) → text ≡ front ++ more → Puts a f front true b g → Puts b g more whole c h → Puts a f text whole c h
puts_then a b c f g h whole front more text e first second = rw e (puts_more a b c f g h front more whole first second)

pub puts_part : {T E : Type 0} (a b : Option (List ℕ)) (f g : ℕ) (result : Result T E) (fault : E) (front more text : List ℕ) → IsErrAnd result (λ e. e ≡ fault)
    → text ≡ front ++ more → Puts a f front false b g → Puts a f text (is_ok result) b g
puts_part a b f g result fault front more text failed is first =
    let p = err_from_is_err_and result failed in
    rw (p.1, is) (puts_less a b f g front more first)
