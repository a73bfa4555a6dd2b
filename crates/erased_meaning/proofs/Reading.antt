-- Of a source that spells a program the text without directive lines is read.
use Rattle.std.proofs.Common.{◌≡◌, ℕ, List, Ok, Err, Result, refl, subst}
use Rattle.std.specs.Prelude.{IfOk, IfErr}
use Rattle.base.specs.declared.tree.Program.{Program}
use Rattle.base.specs.declared.fault.ReadFault.{ReadFault}
use Rattle.base.specs.declared.fault.ReadFault.TheVariants as read
use Rattle.c_grammar.specs.Grammar.{Text}
use Rattle.c_source.specs.Source.{Spells as SpellsText}
use Rattle.c_read.specs.Spells.{OnText, Spells}
use Rattle.erasure.specs.Plain.{plain_tree}
use Rattle.erasure.specs.Erased.{erased_text}
use Rattle.erased_meaning.specs.Laws.{IsErased}
use Rattle.erased_meaning.proofs.ErasedRuns.{erased_text_runs}

-- what is read of the erased text is the erased program
pub on_erased : (r : Result Program ReadFault) (bytes text : List ℕ) → text ≡ erased_text bytes →
    IfOk r (λ q. Spells text q) → (p : Program) → Spells bytes p → IfOk r (λ q. IsErased p q)
on_erased (Ok q) bytes text e found p s =
    erased_text_runs bytes p q s (subst (λ (t : List ℕ). Spells t q) e found)
on_erased (Err f) bytes text e found p s = tt

-- there is no other fault than want of memory
only_memory : (bytes text : List ℕ) (p : Program) (f : ReadFault) → Spells bytes p →
    ((t : Text) → SpellsText bytes t → SpellsText text (plain_tree t)) →
    OnText (λ x. (t : Text) → SpellsText text t → ⊥) f → f ≡ read.OutOfMemory
only_memory bytes text p (read.Text x) s e none = absurd (none (plain_tree s.text) (e s.text s.spelled))
only_memory bytes text p read.OutOfMemory s e none = refl

pub on_memory : (r : Result Program ReadFault) (bytes text items : List ℕ) → text ≡ items →
    ((t : Text) → SpellsText bytes t → SpellsText items (plain_tree t)) →
    IfErr r (OnText (λ x. (t : Text) → SpellsText text t → ⊥)) → (p : Program) → Spells bytes p →
    IfErr r (λ f. f ≡ read.OutOfMemory)
on_memory (Ok q) bytes text items e tree none p s = tt
on_memory (Err f) bytes text items e tree none p s =
    only_memory bytes items p f s tree
    (subst (λ (u : List ℕ). OnText (λ x. (t : Text) → SpellsText u t → ⊥) f) e none)
