-- What a source's rules find on a line.
use Rattle.std.proofs.Common.{◌≡◌, ℕ, ◌+◌, true, List, [], ◌∷◌, drop, map, Option, Some, None, refl, sym, ap, ◌∙◌}
use Rattle.c_grammar.specs.Lexeme.{Lexeme, Ended, Placed}
use Rattle.c_grammar.specs.Texts.{terminals, kinds}
use Rattle.c_grammar.specs.LineGrammar as grammar
use Rattle.c_grammar.specs.LineRules.{line_grammar}
use Rattle.c_grammar.specs.LineMachine.{LineStack, line_start}
use Rattle.c_grammar.specs.Lines.{Use, use_of, with_use, first_of, uses_from, uses_of, is_omp, kind_of, depth_of}
use Rattle.c_grammar.proofs.LineGoes.{Goes, line_passes_text}
use Rattle.c_grammar.proofs.LineKinds.{kind_is, depth_is}
use Rattle.directives.specs.declared.tree.Directive.{Directive}
use Rattle.directives.specs.Cursor.{Items, item_of, line_items}
use Rattle.directives.specs.Kinds.{seen_kind}
use Rattle.directives.specs.Names.{Uses, names_in, at_column, IsInSource}
use Rattle.directives.specs.Reading.{IsAt, Fits}
use Rattle.directives.specs.Spells.{SpellsLine, kinds_of, columns_of}
use Rattle.directives.specs.Trees.{Spelling, text_of, line_marks}
use Rattle.directives.proofs.Numbered.{nth_first, drop_next}
use Rattle.directives.proofs.Telling.{Tells, TellsOne, next_kind, line_tells}

abbrev Slots : Type 0
Slots = grammar.LineSlots

-- the names in slots with the numbers of their tokens
abbrev slot_uses : ℕ → Slots → Uses
slot_uses k [] = []
slot_uses k (x ∷ xs) = with_use k (use_of x.0 x.1.1 (next_kind xs Ended)) (slot_uses (k + 1) xs)

first_is : (xs : Slots) → first_of (kinds line_grammar xs) ≡ next_kind xs Ended
first_is [] = refl
first_is (x ∷ xs) = refl

-- they are what the machine finds on its way
uses_pass : (k : ℕ) (s : LineStack) (xs : Slots) (s' : LineStack) → Goes s xs s' →
    uses_from k s (kinds line_grammar xs) ≡ slot_uses k xs
unfolding uses_from
uses_pass k s [] s' p = refl
uses_pass k s (x ∷ xs) s' p =
    rw (p.1, first_is xs) (ap (λ (us : Uses). with_use k (use_of x.0 x.1.1 (next_kind xs Ended)) us)
    (uses_pass (k + 1) p.0 xs s' p.2))

-- with the columns of tokens that fit
placed_uses : (all : List ℕ) (k : ℕ) (xs : Spelling) (us : Slots) (is : Items) (ns : Uses) →
    drop k all ≡ map (λ i. i.column) is → Fits xs is [] → Tells xs us Ended ns → map (at_column all) (slot_uses k us) ≡ ns
placed_uses all k [] [] is ns d e h = sym h
placed_uses all k [] (u ∷ us) is ns d e h = absurd h
placed_uses all k (x ∷ xs) [] is ns d e h = absurd h
placed_uses all k (x ∷ xs) (u ∷ us) [] ns d e h = absurd e
placed_uses all k (x ∷ xs) (u ∷ us) (i ∷ is) ns d e h =
    one x.1 (use_of u.0 u.1.1 (next_kind us Ended)) ns e.1
    (λ ms g. placed_uses all (k + 1) xs us is ms (drop_next all k i.column (map (λ j. j.column) is) d) e.2 g) h
  where
    one : (o : Option ℕ) (n : Option Use) (ns : Uses) → IsAt o i.column →
        ((ms : Uses) → Tells xs us Ended ms → map (at_column all) (slot_uses (k + 1) us) ≡ ms) →
        TellsOne o n ns (λ ms. Tells xs us Ended ms) → map (at_column all) (with_use k n (slot_uses (k + 1) us)) ≡ ns
    one None None ns a more h = more ns h
    one None (Some v) ns a more h = absurd h
    one (Some c) None ns a more h = absurd h
    one (Some c) (Some v) [] a more h = absurd h
    one (Some c) (Some v) (m ∷ ms) a more h =
        ap (λ (n : ℕ). (n, v) ∷ map (at_column all) (slot_uses (k + 1) us))
        (nth_first all k i.column (map (λ j. j.column) is) d ∙ a)
        ∙ ap (λ (n : ℕ × Use). n ∷ map (at_column all) (slot_uses (k + 1) us)) (sym h.0)
        ∙ ap (λ (ks : Uses). m ∷ ks) (more ms h.1)

kinds_are : (ps : List Placed) → terminals line_grammar (map item_of ps) ≡ kinds_of ps
kinds_are [] = refl
kinds_are (p ∷ ps) = ap (λ (ts : List Lexeme). p.lexeme ∷ ts) (kinds_are ps)

columns_are : (ps : List Placed) → columns_of ps ≡ map (λ i. i.column) (map item_of ps)
columns_are [] = refl
columns_are (p ∷ ps) = ap (λ (cs : List ℕ). p.column ∷ cs) (columns_are ps)

-- ---- the words

words_are : (t : grammar.LineText) → is_omp (kinds line_grammar (grammar.line_slots t)) ≡ true
unfolding is_omp
words_are t = refl

pub in_source : (ps : List Placed) (d : Directive) → SpellsLine ps d → IsInSource ps d
unfolding uses_of
in_source ps d s =
    let t = text_of d in
    let same : kinds_of ps ≡ kinds line_grammar (grammar.line_slots t) = sym (kinds_are ps) ∙ s.spelled.tokens in
    let pass : uses_of (kinds line_grammar (grammar.line_slots t)) ≡ slot_uses 0 (grammar.line_slots t) =
    uses_pass 0 line_start (grammar.line_slots t) [] (line_passes_text t s.spelled.is_text) in
    record {
      words = ap is_omp same ∙ words_are t;
      kind = ap kind_of same ∙ kind_is (seen_kind d.kind) t.clauses;
      depth = ap depth_of same ∙ depth_is t s.spelled.is_text;
      names = ap (λ (ts : List Lexeme). map (at_column (columns_of ps)) (uses_of ts)) same
          ∙ ap (λ (us : Uses). map (at_column (columns_of ps)) us) pass
          ∙ placed_uses (columns_of ps) 0 (line_marks d) (grammar.line_slots t) (line_items ps) (names_in d)
          (columns_are ps) s.placed.fits (line_tells d);
    }
