-- The globals of a source, one after another.
use Rattle.std.proofs.Common.{◌≡◌, ℕ, ◌+◌, List, [], ◌∷◌, ◌++◌, length, map, Option, refl, sym, ap, subst, ◌∙◌, append_assoc, length-append}
use Rattle.std.specs.declared.string.String.{String}
use Rattle.base.specs.declared.tree.ArrayInfo.{ArrayInfo}
use Rattle.c_grammar.specs.AsciiNames.{AreAscii}
use Rattle.c_grammar.specs.Terminal.{Terminal}
use Rattle.c_grammar.specs.Grammar.{Global, Scalar, Array, Slots, global, globals}
use Rattle.c_expressions.specs.declared.scope.Scope.{Scope}
use Rattle.c_expressions.specs.Means.{Items}
use Rattle.c_expressions.specs.Reading.{terminals, kinds}
use Rattle.c_expressions.specs.Scopes.{names_of}
use Rattle.c_expressions.proofs.Expressions.{kinds_append, drops, drop_by}
use Rattle.c_read.specs.Globals.{Front, front_of, behind_globals, with_global, arrays_in, entry_of, AreGlobalsRead, AreKnown}

globals_append : (gs hs : List Global) → globals (gs ++ hs) ≡ globals gs ++ globals hs
globals_append [] hs = refl
globals_append (g ∷ gs) hs = ap (λ (xs : Slots). global g ++ xs) (globals_append gs hs)
    ∙ sym (append_assoc (global g) (globals gs) (globals hs))

arrays_append : (gs hs : List Global) → arrays_in (gs ++ hs) ≡ arrays_in gs ++ arrays_in hs
arrays_append [] hs = refl
arrays_append (Scalar x ∷ gs) hs = arrays_append gs hs
arrays_append (Array x n ∷ gs) hs = ap (λ (xs : List (List ℕ × Option ℕ)). (x, n) ∷ xs) (arrays_append gs hs)

behind_append : (gs hs : List Global) (f : Front) → behind_globals (gs ++ hs) f ≡ behind_globals hs (behind_globals gs f)
behind_append [] hs f = refl
behind_append (g ∷ gs) hs f = behind_append gs hs (with_global g f)

-- the tokens that follow some
ascii_rest : (ts us : List Terminal) → AreAscii (ts ++ us) → AreAscii us
ascii_rest [] us h = h
ascii_rest (t ∷ ts) us h = ascii_rest ts us h.1

module _ {Z : Type 0} where
  pub no_globals : (s : Scope) (es : List (String Z × ArrayInfo)) (is : Items) → es ≡ [] → AreGlobalsRead s s [] es is is
  no_globals s es is e = rw e (record { text = []; tokens = refl; rest = refl; front = refl; still = record { target = refl; choice = refl; always = refl }; entries = refl; known = tt })

  pub ascii_behind : (old new : Scope) (es fs : List (String Z × ArrayInfo)) (before after : Items) →
      AreAscii (terminals before) → AreGlobalsRead old new es fs before after → AreAscii (terminals after)
  ascii_behind old new es fs before after h r =
      ascii_rest (kinds (globals r.text)) (terminals after) (subst (λ (ts : List Terminal). AreAscii ts) r.tokens h)

  pub known_so_far : (old new : Scope) (es fs : List (String Z × ArrayInfo)) (before after : Items) →
      AreGlobalsRead old new es fs before after → AreKnown (names_of new) fs
  known_so_far old new es fs before after r = r.known

  pub globals_then : (s0 s1 s2 : Scope) (e0 e1 e2 : List (String Z × ArrayInfo)) (i0 i1 i2 : Items) →
      AreGlobalsRead s0 s1 e0 e1 i0 i1 → AreGlobalsRead s1 s2 e1 e2 i1 i2 → AreGlobalsRead s0 s2 e0 e2 i0 i2
  globals_then s0 s1 s2 e0 e1 e2 i0 i1 i2 a b =
      let gs = a.text in
      let hs = b.text in
      record {
        text = gs ++ hs;
        tokens =
            a.tokens ∙ ap (λ (ts : List Terminal). kinds (globals gs) ++ ts) b.tokens
            ∙ sym (append_assoc (kinds (globals gs)) (kinds (globals hs)) (terminals i2))
            ∙ ap (λ (ts : List Terminal). ts ++ terminals i2)
            (sym (ap (λ (xs : Slots). kinds xs) (globals_append gs hs) ∙ kinds_append (globals gs) (globals hs)));
        rest =
            drop_by (length (globals gs) + length (globals hs)) (length (globals (gs ++ hs))) i0 i2
            (sym (ap (λ (xs : Slots). length xs) (globals_append gs hs) ∙ length-append (globals gs) (globals hs)))
            (drops (length (globals gs)) (length (globals hs)) i0 i1 i2 a.rest b.rest);
        front =
            b.front ∙ ap (λ (f : Front). behind_globals hs f) a.front ∙ sym (behind_append gs hs (front_of s0));
        still = record {
          target = b.still.target ∙ a.still.target;
          choice = b.still.choice ∙ a.still.choice;
          always = b.still.always ∙ a.still.always;
        };
        entries =
            b.entries ∙ ap (λ (xs : List (List ℕ × Option ℕ)). xs ++ arrays_in hs) a.entries
            ∙ append_assoc (map entry_of e0) (arrays_in gs) (arrays_in hs)
            ∙ ap (λ (xs : List (List ℕ × Option ℕ)). map entry_of e0 ++ xs) (sym (arrays_append gs hs));
        known = b.known;
      }
