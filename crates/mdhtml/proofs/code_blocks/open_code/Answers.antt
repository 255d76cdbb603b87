use Rattle.std.proofs.Common.{◌≡◌, ℕ, Bool, false, List, ◌++◌, if◌then◌else◌, sym, ◌∙◌, ap, append_assoc}
use Rattle.htmlspec.specs.BlockHtml.{language_open, meta_attribute}
use Rattle.mdhtml.proofs.code_blocks.open_code.Goals as goal

last_case : (empty : Bool) (out short before lang more after named : List ℕ) → empty ≡ false → named ≡ before ++ lang ++ more ++ after →
    (((out ++ before) ++ lang) ++ more) ++ after ≡ out ++ (if empty then short else named)
last_case empty out short before lang more after named e is =
    rw (e, is) (ap (λ l. (l ++ more) ++ after) (append_assoc out before lang) ∙ ap (λ l. l ++ after) (append_assoc out (before ++ lang) more)
    ∙ append_assoc out (before ++ lang ++ more) after)

pub returns-in_ok-push_str-3 : goal.returns-in_ok-push_str-3
returns-in_ok-push_str-3 c =
    rw (c.in_ok-push_str-3.ensures.bytes, c.in_ok-write_meta.ensures.ok, c.in_ok-escape_text.ensures.ok, c.in_ok-push_str-2.ensures.bytes)
    (last_case _ _ _ _ _ _ _ _ (sym c.is_empty.ensures ∙ c.if-is_empty.false) (ap (λ t. language_open t c.args.lang.now (meta_attribute c.args.options.now c.args.meta.now)) c.if-options.true))

pub returns-in_ok-push_str-5 : goal.returns-in_ok-push_str-5
returns-in_ok-push_str-5 c =
    rw (c.in_ok-push_str-5.ensures.bytes, c.in_ok-write_meta-2.ensures.ok, c.in_ok-escape_text-2.ensures.ok, c.in_ok-push_str-4.ensures.bytes)
    (last_case _ _ _ _ _ _ _ _ (sym c.is_empty.ensures ∙ c.if-is_empty.false) (ap (λ t. language_open t c.args.lang.now (meta_attribute c.args.options.now c.args.meta.now)) c.if-options.false))
