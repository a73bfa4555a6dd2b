-- Texts whose tokens are the same but for directive lines spell programs that do the same without directives.
use Rattle.std.proofs.Common.{◌≡◌, ◌≤◌, ℕ, ◌+◌, Bool, true, false, cond, List, [], ◌∷◌, ◌++◌, length, refl, sym, ap, subst, ◌∙◌, arith, length-append}
use Rattle.std.proofs.lemmas.List.{append-nil}
use Rattle.base.specs.declared.tree.Program.{Program}
use Rattle.base.specs.Meaning.{erased, lengths_of}
use Rattle.c_grammar.specs.Grammar.{Text, slots}
use Rattle.c_grammar.specs.Rules.{source_grammar}
use Rattle.c_grammar.specs.Source.{end_of, max_source}
use Rattle.c_source.specs.Source.{items_of, written_out, Spells as SpellsText}
use Rattle.c_grammar.specs.Terminal.{Terminal, End}
use Rattle.c_grammar.specs.Texts.{kinds}
use Rattle.c_grammar.proofs.SourceOne.{same_text}
use Rattle.c_read.specs.Spells.{IsProgram, Spells}
use Rattle.c_grammar.specs.Blocks.{Items, is_directive, bare}
use Rattle.erasure.specs.Erased.{erased_text, items_in}
use Rattle.erasure.specs.Plain.{plain_tree}
use Rattle.erasure.proofs.Covered.{erased_items}
use Rattle.erasure.proofs.Spelled.{kinds_in, with_end, erased_shorter, spells_plain}
use Rattle.erased_meaning.specs.Laws.{IsErased, SameRun}
use Rattle.erased_meaning.proofs.ErasedRuns.{erased_is}
use Rattle.erased_meaning.proofs.Globals.{main_safe}
use Rattle.same_text.specs.Laws.{bare_tokens, RunAlike}
use Rattle.same_text.proofs.Unlined.{all_unlined}
use Rattle.same_text.proofs.UnlinedTexts.{written_kinds}

-- all tokens of the text without its directive lines
erased_tokens : (bytes : List ℕ) → kinds_in (items_of (erased_text bytes)) ≡ kinds_in (written_out (bare_tokens bytes)) ++ End ∷ []
erased_tokens bytes =
    with_end (written_out (items_in (erased_text bytes))) (end_of (erased_text bytes))
    ∙ ap (λ (is : Items). kinds_in (written_out is) ++ End ∷ []) (erased_items bytes)
    ∙ ap (λ (ts : List Terminal). ts ++ End ∷ []) (written_kinds (bare (items_in bytes)))

bare_twice : (is : Items) → bare (bare is) ≡ bare is
bare_twice [] = refl
bare_twice (i ∷ is) = step (is_directive i.terminal) refl (bare_twice is)
  where
    step : (t : Bool) → is_directive i.terminal ≡ t → bare (bare is) ≡ bare is →
        bare (cond t (bare is) (i ∷ bare is)) ≡ cond t (bare is) (i ∷ bare is)
    step true e h = h
    step false e h =
        ap (λ (t : Bool). cond t (bare (bare is)) (i ∷ bare (bare is))) e ∙ ap (λ (js : Items). i ∷ js) h

-- without its directive lines a text has none
twice_bare : (bytes : List ℕ) → bare_tokens (erased_text bytes) ≡ bare_tokens bytes
twice_bare bytes = ap all_unlined (ap bare (erased_items bytes) ∙ bare_twice (items_in bytes))

-- the tokens of the second text without directive lines are those of the tree of the first without its directives
tree_tokens : (a b : List ℕ) (t : Text) → bare_tokens a ≡ bare_tokens b → SpellsText (erased_text a) (plain_tree t) →
    kinds_in (items_of (erased_text b)) ≡ kinds source_grammar (slots (plain_tree t))
tree_tokens a b t e plain =
    erased_tokens b ∙ ap (λ (is : Items). kinds_in (written_out is) ++ End ∷ []) (sym e) ∙ sym (erased_tokens a)
    ∙ plain.spelled.tokens

one_tree : (a b : List ℕ) (t u : Text) → bare_tokens a ≡ bare_tokens b → SpellsText a t →
    SpellsText (erased_text b) u → u ≡ plain_tree t
one_tree a b t u e s r =
    let plain : SpellsText (erased_text a) (plain_tree t) = spells_plain a t s in
    same_text u (plain_tree t) r.spelled.is_text plain.spelled.is_text (sym r.spelled.tokens ∙ tree_tokens a b t e plain)

pub same_tokens_erase : (a b : List ℕ) (p q : Program) → bare_tokens a ≡ bare_tokens b → Spells a p →
    Spells (erased_text b) q → IsErased p q
same_tokens_erase a b p q e s u =
    let one : u.text ≡ plain_tree s.text = one_tree a b s.text u.text e s.spelled u.spelled in
    erased_is s.text (items_of a) (items_of (erased_text b)) p q (main_safe s.text s.spelled.spelled.keeps) s.means
    (subst (λ (t : Text). IsProgram (items_of (erased_text b)) t q) one u.means)

-- where each of two lists begins with the other they are the same
no_more : (ns ms xs ys : List ℕ) → ns ≡ ms ++ xs → ms ≡ ns ++ ys → xs ≡ []
no_more ns ms [] ys e f = refl
no_more ns ms (x ∷ xs) ys e f =
    let first : length ns ≡ length ms + length (x ∷ xs) = ap length e ∙ length-append ms (x ∷ xs) in
    let second : length ms ≡ length ns + length ys = ap length f ∙ length-append ns ys in
    absurd (omega (arith, first, second))

-- a text without its directive lines has the same tokens, and its program no directive
pub same_tokens_run : (a b : List ℕ) (p q : Program) → bare_tokens a ≡ bare_tokens b → Spells (erased_text a) p →
    Spells (erased_text b) q → RunAlike p q
same_tokens_run a b p q e s u =
    let all : IsErased p q = same_tokens_erase (erased_text a) b p q (twice_bare a ∙ e) s u in
    let back : IsErased q p = same_tokens_erase (erased_text b) a q p (twice_bare b ∙ sym e) u s in
    let none : all.boxes ≡ [] = no_more (lengths_of p) (lengths_of q) all.boxes back.boxes all.lengths back.lengths in
    let lengths : lengths_of p ≡ lengths_of q =
    all.lengths ∙ ap (λ (ns : List ℕ). lengths_of q ++ ns) none ∙ append-nil (lengths_of q) in
    record {
      lengths = lengths;
      runs = λ input. subst (λ (n : ℕ). SameRun n (erased p input) (erased q input)) (ap length (sym lengths))
          (all.runs input);
    }

-- ---- the second text without directive lines is one of the grammar

pub same_tokens_text : (a b : List ℕ) (t : Text) → bare_tokens a ≡ bare_tokens b → SpellsText a t →
    length b ≤ max_source → SpellsText (erased_text b) (plain_tree t)
same_tokens_text a b t e s short =
    let plain : SpellsText (erased_text a) (plain_tree t) = spells_plain a t s in
    record {
      short = omega (arith, erased_shorter b, short);
      spelled = record {
        tokens = tree_tokens a b t e plain;
        is_text = plain.spelled.is_text;
        keeps = plain.spelled.keeps;
      };
    }
