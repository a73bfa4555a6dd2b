-- From what the reader found to what is promised of the source.
use Rattle.std.proofs.Common.{◌≡◌, ℕ, ◌<◌, ◌≤◌, true, false, cond, List, length, Some, None, ap, ◌∙◌, arith}
use Rattle.std.specs.Prelude.{nat_lt}
use Rattle.std.proofs.lemmas.Bool.Decides.{nat_tests}
use Rattle.base.specs.declared.tree.Program.{Program}
use Rattle.base.specs.declared.fault.TextFault.{TextFault}
use Rattle.base.specs.declared.fault.ReadCode.TheVariants.{TooMany}
use Rattle.c_grammar.specs.Program.{start}
use Rattle.c_grammar.specs.Rules.{begin}
use Rattle.c_grammar.specs.Grammar.{Text}
use Rattle.c_grammar.specs.Source.{max_source}
use Rattle.c_source.specs.Source.{items_of, answer, fault_in, IsFirstFault, Spells as SpellsText}
use Rattle.c_source.proofs.Sources.{fault_first, text_spelled, text_not_spelled}
use Rattle.c_expressions.specs.Reading.{run}
use Rattle.c_read.specs.Spells.{Spells, IsTextRead}

abbrev too_long : TextFault
too_long = record { code = TooMany; line = 1; column = 1 }

answer_short : (bytes : List ℕ) → length bytes ≤ max_source → answer bytes ≡ run begin start (items_of bytes)
unfolding answer run
answer_short bytes h =
    let short : nat_lt max_source (length bytes) ≡ false = grind (arith, nat_tests) in
    ap (λ b. cond b (Some too_long) (fault_in bytes)) short

answer_long : (bytes : List ℕ) → max_source < length bytes → answer bytes ≡ Some too_long
unfolding answer
answer_long bytes h =
    let long : nat_lt max_source (length bytes) ≡ true = grind (arith, nat_tests) in
    ap (λ b. cond b (Some too_long) (fault_in bytes)) long

pub spells : (bytes : List ℕ) (p : Program) → length bytes ≤ max_source → run begin start (items_of bytes) ≡ None →
    IsTextRead (items_of bytes) p → Spells bytes p
spells bytes p h none r = record {
  text = r.text;
  spelled = text_spelled bytes r.text (answer_short bytes h ∙ none) r.tokens r.is_text;
  means = r.means;
}

pub is_first : (bytes : List ℕ) (f : TextFault) → length bytes ≤ max_source → run begin start (items_of bytes) ≡ Some f →
    IsFirstFault bytes f
is_first bytes f h e = fault_first bytes f (answer_short bytes h ∙ e)

pub no_text : (bytes : List ℕ) (f : TextFault) → length bytes ≤ max_source → run begin start (items_of bytes) ≡ Some f →
    (t : Text) → SpellsText bytes t → ⊥
no_text bytes f h e t s = text_not_spelled bytes f t (answer_short bytes h ∙ e) s

pub is_none : (bytes : List ℕ) (f : TextFault) → length bytes ≤ max_source → run begin start (items_of bytes) ≡ Some f →
    (p : Program) → Spells bytes p → ⊥
is_none bytes f h e p s = no_text bytes f h e s.text s.spelled

pub too_long_first : (bytes : List ℕ) → max_source < length bytes → IsFirstFault bytes too_long
too_long_first bytes h = fault_first bytes too_long (answer_long bytes h)

pub too_long_no_text : (bytes : List ℕ) → max_source < length bytes → (t : Text) → SpellsText bytes t → ⊥
too_long_no_text bytes h t s = text_not_spelled bytes too_long t (answer_long bytes h) s

pub too_long_none : (bytes : List ℕ) → max_source < length bytes → (p : Program) → Spells bytes p → ⊥
too_long_none bytes h p s = too_long_no_text bytes h s.text s.spelled
