-- Texts that differ in their directive lines alone do the same without them.
use Rattle.std.proofs.Common.{◌≡◌, ℕ, List, sym, ap, ◌∙◌}
use Rattle.c_tokens.specs.declared.kind.Mood.TheVariants.{Fresh}
use Rattle.erasure.specs.Plain.{plain_tree}
use Rattle.mend.specs.Bare.{without_directives}
use Rattle.same_text.specs.Laws.{bare_tokens, BareTokensStay, MendErases, SameTextRuns, SourceIsText}
use Rattle.same_text.proofs.SameTokens.{same_tokens_erase, same_tokens_run, same_tokens_text}
use Rattle.same_text.proofs.Told.{told_from, bare_told}
use Rattle.same_text.proofs.Waiting.{whole_told}
use Rattle.same_text.proofs.Outside.{without_is_whole}

pub bare_tokens_stay : BareTokensStay
bare_tokens_stay bytes =
    bare_told (without_directives bytes)
    ∙ ap (λ (xs : List ℕ). told_from xs 0 Fresh 1) (without_is_whole bytes) ∙ whole_told bytes ∙ sym (bare_told bytes)

-- texts that are the same without lines have the same other tokens
same_tokens : (a b : List ℕ) → without_directives a ≡ without_directives b → bare_tokens a ≡ bare_tokens b
same_tokens a b e = sym (bare_tokens_stay a) ∙ ap bare_tokens e ∙ bare_tokens_stay b

pub mend_erases : MendErases
mend_erases a b p q e s u = same_tokens_erase a b p q (same_tokens a b e) s u

pub source_is_text : SourceIsText
source_is_text a b p e s short = (plain_tree s.text, same_tokens_text a b s.text (same_tokens a b e) s.spelled short)

pub same_text_runs : SameTextRuns
same_text_runs a b p q e s u = same_tokens_run a b p q (same_tokens a b e) s u
