-- The text without its directives spells the tree without its directives.
use Rattle.std.proofs.Common.{◌≡◌, ℕ, ◌+◌, ◌≤◌, Bool, true, false, cond, List, [], ◌∷◌, ◌++◌, length, refl, sym, ap, ◌∙◌, arith}
use Rattle.std.specs.List.{list_any}
use Rattle.c_tokens.specs.declared.kind.Token.{Token}
use Rattle.c_tokens.specs.Text.{tokens_of}
use Rattle.c_grammar.specs.Terminal.{Terminal, End}
use Rattle.c_grammar.specs.Texts.{Item, terminals}
use Rattle.c_grammar.specs.Grammar.{Text}
use Rattle.c_grammar.specs.Rules.{source_grammar}
use Rattle.c_grammar.specs.Source.{end_of}
use Rattle.c_source.specs.Source.{items_of, written_out, Spells}
use Rattle.c_source.proofs.Written.{written_bare}
use Rattle.erasure.specs.Erased.{covers, uncovered, erased_text, items_in}
use Rattle.erasure.specs.Plain.{plain_tree}
use Rattle.erasure.proofs.Covered.{erased_items}
use Rattle.erasure.proofs.BareTexts.{bared, bare_items, bare_append, bares_slots}
use Rattle.erasure.proofs.KeptRules.{plain_keeps, plain_is_text}

shorter : (bytes : List ℕ) (ts : List Token) (k : ℕ) (bs : List ℕ) → length (uncovered bytes ts k bs) ≤ length bs
shorter bytes ts k [] = omega arith
shorter bytes ts k (b ∷ bs) = step (list_any (covers bytes k) ts) (shorter bytes ts (k + 1) bs)
  where
    step : (t : Bool) → length (uncovered bytes ts (k + 1) bs) ≤ length bs →
        length (cond t (uncovered bytes ts (k + 1) bs) (b ∷ uncovered bytes ts (k + 1) bs)) ≤ length (b ∷ bs)
    step true h = omega (arith, h)
    step false h = omega (arith, h)

pub erased_shorter : (bytes : List ℕ) → length (erased_text bytes) ≤ length bytes
unfolding erased_text
erased_shorter bytes = shorter bytes (tokens_of bytes) 0 bytes

abbrev pub kinds_in : List (Item Terminal) → List Terminal
kinds_in is = terminals source_grammar is

pub with_end : (is : List (Item Terminal)) (i : Item Terminal) → kinds_in (is ++ i ∷ []) ≡ kinds_in is ++ i.terminal ∷ []
with_end [] i = refl
with_end (j ∷ is) i = ap (λ (ts : List Terminal). j.terminal ∷ ts) (with_end is i)

erased_kinds : (bytes : List ℕ) → kinds_in (items_of (erased_text bytes)) ≡ bared (kinds_in (items_of bytes))
erased_kinds bytes =
    with_end (written_out (items_in (erased_text bytes))) (end_of (erased_text bytes))
    ∙ ap (λ (is : List (Item Terminal)). kinds_in (written_out is) ++ End ∷ []) (erased_items bytes)
    ∙ ap (λ (is : List (Item Terminal)). kinds_in is ++ End ∷ []) (written_bare (items_in bytes))
    ∙ ap (λ (ts : List Terminal). ts ++ End ∷ []) (bare_items (written_out (items_in bytes)))
    ∙ sym (bare_append (kinds_in (written_out (items_in bytes))) (End ∷ []))
    ∙ ap bared (sym (with_end (written_out (items_in bytes)) (end_of bytes)))

pub spells_plain : (bytes : List ℕ) (t : Text) → Spells bytes t → Spells (erased_text bytes) (plain_tree t)
spells_plain bytes t s =
    record {
      short = omega (arith, erased_shorter bytes, s.short);
      spelled = record {
        tokens = erased_kinds bytes ∙ ap bared s.spelled.tokens ∙ bares_slots t s.spelled.is_text;
        is_text = plain_is_text t s.spelled.is_text;
        keeps = plain_keeps t s.spelled.keeps;
      };
    }
