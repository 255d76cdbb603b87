-- What an edit puts in place of some lines leaves those in front and those behind.
use Rattle.std.proofs.Common.{◌≡◌, ℕ, ◌+◌, ◌-◌, ◌≤◌, List, ◌++◌, length, map, take, drop, refl, sym, ◌∙◌, ap, append_assoc, arith, length-append}
use Rattle.std.proofs.lemmas.List.{length-take-le, length-drop}
use Rattle.std.proofs.Math.Seq.{take-append_seam, drop-append_seam}
use Rattle.mdtext.specs.Lines.{without_nul}
use Rattle.blockspec.proofs.DocumentLaws.{map_length}
use Rattle.mdsource.specs.Setting.{Setting, Source}
use Rattle.mdsource.specs.Calls.{edit, put}
use Rattle.mdsource.specs.Changes.{places}
use Rattle.mdsource.proofs.Splices.{IsEdit}

pub edit_is : (setting : Setting) (old : Source) (at del : ℕ) (add : List (List ℕ)) → at + del ≤ length old.lines →
    IsEdit setting.entities old.lines (put old (edit at del add)).lines (places setting old (edit at del add))
edit_is setting old at del add fits = record {
  olds = refl;
  news = refl;
  lines = refl;
  fits = fits;
  sizes = let whole = length-append (front ++ come) back in let half = length-append front come in omega (arith, fits, whole, half, front_size, come_size, back_size);
  front = ap (take at) (append_assoc front come back) ∙ ap (λ z. take z (front ++ (come ++ back))) (sym front_size) ∙ take-append_seam front (come ++ back);
  back = ap (λ z. drop z (front ++ come ++ back)) (let half = length-append front come in let is : at + length add ≡ length (front ++ come) = omega (arith, half, front_size, come_size) in is)
      ∙ drop-append_seam (front ++ come) back;
}
  where
    front : List (List ℕ)
    front = take at old.lines

    come : List (List ℕ)
    come = map without_nul add

    back : List (List ℕ)
    back = drop (at + del) old.lines

    front_size : length front ≡ at
    front_size = length-take-le at old.lines (omega (arith, fits))

    come_size : length come ≡ length add
    come_size = map_length without_nul add

    back_size : length back ≡ length old.lines - (at + del)
    back_size = length-drop (at + del) old.lines
