-- The first rule that a line breaks by its names.
use Rattle.std.proofs.Common.{◌≡◌, ℕ, suc, ◌+◌, ◌<◌, ◌≤◌, Bool, true, false, eqb, cond, List, [], ◌∷◌, map, Option, Some, None, refl, ap, ◌∙◌, arith, ne_eqb}
use Rattle.std.specs.Prelude.{◌&&◌, not}
use Rattle.std.proofs.lemmas.Bool.{eq-eqb}
use Rattle.std.proofs.Math.Bool.{or-false}
use Rattle.base.specs.declared.fault.ReadCode.{ReadCode as Code}
use Rattle.base.specs.declared.fault.ReadCode.TheVariants.{Undeclared, BadBound}
use Rattle.c_grammar.specs.Lexeme.{Lexeme}
use Rattle.c_grammar.specs.LineGrammar.{LineAct}
use Rattle.c_grammar.specs.LineMachine.{LineSymbol, line_advance, line_start}
use Rattle.c_grammar.specs.Lines.{Use, use_of, with_use, first_of as next_of, uses_on, uses_from, uses_of}
use Rattle.c_grammar.specs.Terminal.{Terminal, Line}
use Rattle.c_grammar.specs.Texts.{Item}
use Rattle.c_grammar.specs.Grammar.{Act, for}
use Rattle.c_grammar.specs.Rules.{Context, Rule, breaks, misused, misused_at, name_of, names_boxes, sort_of}
use Rattle.c_grammar.specs.Program.{first_rule, use_rules}
use Rattle.c_grammar.specs.Source.{nth, column_of}
use Rattle.directives.specs.declared.fault.LineFault.{LineFault}
use Rattle.directives.specs.Names.{Uses, at_column}
use Rattle.c_constructs.specs.Uses.{first_of, names_fault}

-- ---- the numbers of names rise

abbrev pub Rises : ℕ → Uses → Type 0
Rises k [] = Unit {0}
Rises k (u ∷ us) = (k ≤ u.0) × Rises (u.0 + 1) us

rises_from : (k j : ℕ) (us : Uses) → k ≤ j → Rises j us → Rises k us
rises_from k j [] h r = tt
rises_from k j (u ∷ us) h r = (omega (arith, h, r.0), r.1)

rises_with : (k : ℕ) (o : Option Use) (us : Uses) → Rises (k + 1) us → Rises k (with_use k o us)
rises_with k None us r = rises_from k (k + 1) us (omega arith) r
rises_with k (Some u) us r = (omega arith, r)

rises_on : (k : ℕ) (t next : Lexeme) (o : Option ((Option Code × LineAct) × List LineSymbol))
    (go : ℕ → List LineSymbol → Uses) → ((j : ℕ) (s : List LineSymbol) → Rises j (go j s)) → Rises k (uses_on k t next o go)
rises_on k t next None go h = tt
rises_on k t next (Some m) go h = rises_with k (use_of t m.0.1 next) (go (k + 1) m.1) (h (k + 1) m.1)

uses_rise : (ts : List Lexeme) (k : ℕ) (s : List LineSymbol) → Rises k (uses_from k s ts)
unfolding uses_from
uses_rise [] k s = tt
uses_rise (t ∷ ts) k s = rises_on k t (next_of ts) (line_advance s t) (λ k s. uses_from k s ts) (λ j s. uses_rise ts j s)

pub all_rise : (ts : List Lexeme) → Rises 0 (uses_of ts)
unfolding uses_of
all_rise ts = uses_rise ts 0 line_start

-- ---- what is broken at one of them

other_number : (j k : ℕ) → j < k → eqb j k ≡ false
other_number j k h = ne_eqb j k (λ e. omega (arith, e, h))

after_number : (j k : ℕ) → k < j → eqb j k ≡ false
after_number j k h = ne_eqb j k (λ e. omega (arith, e, h))

none_below : (code : Code) (c : Context) (k j : ℕ) (us : Uses) → k < j → Rises j us → misused_at code c k us ≡ false
none_below code c k j [] h r = refl
none_below code c k j (u ∷ us) h r =
    rw (after_number u.0 k (omega (arith, h, r.0)), none_below code c k (u.0 + 1) us (omega (arith, h, r.0)) r.1) refl

at_first : (code : Code) (c : Context) (u : ℕ × Use) (us : Uses) → Rises (u.0 + 1) us →
    misused_at code c u.0 (u ∷ us) ≡ misused code (sort_of c (name_of u.1)) u.1
at_first code c u us r =
    rw (eq-eqb u.0 u.0 refl, none_below code c u.0 (u.0 + 1) us (omega arith) r)
    (or-false (misused code (sort_of c (name_of u.1)) u.1))

past_first : (code : Code) (c : Context) (u : ℕ × Use) (us : Uses) (k : ℕ) → u.0 + 1 ≤ k →
    misused_at code c k (u ∷ us) ≡ misused_at code c k us
past_first code c u us k h = rw (other_number u.0 k (omega (arith, h))) refl

-- ---- the first of them

abbrev pub at_line : Context → List Lexeme → Act → Terminal → Rule → Bool
at_line c ts act n r = breaks r c (Line ts, for act) n

abbrev pub placed_rule : Item Terminal → Option Rule → Option LineFault
placed_rule i None = None
placed_rule i (Some r) = Some (record { code = r.code; column = column_of i r.part })

two_more : (k : ℕ) → k + 2 ≡ suc (suc k)
two_more k = omega arith

-- what is broken from a number on is what these names break
abbrev Tells : Context → List Lexeme → ℕ → Uses → Type 0
Tells c ts low us = (code : Code) (k : ℕ) → low ≤ k → misused_at code c k (uses_of ts) ≡ misused_at code c k us

-- the act is none where the names of boxed scalars stand
abbrev pub IsOfLine : List Lexeme → Act → Type 0
IsOfLine ts act = not (names_boxes (Line ts) act) ≡ true

and_true : (a b : Bool) → b ≡ true → (a && b) ≡ a
and_true true b e = e
and_true false b e = refl

line_test : (c : Context) (ts : List Lexeme) (act : Act) (n : Terminal) (k : ℕ) (code : Code) → IsOfLine ts act →
    at_line c ts act n (record { part = k + 2; code = code }) ≡ misused_at code c k (uses_of ts)
unfolding breaks
line_test c ts act n k code o =
    rw (two_more k) (and_true (misused_at code c k (uses_of ts)) (not (names_boxes (Line ts) act)) o)

first_test : (c : Context) (ts : List Lexeme) (act : Act) (n : Terminal) (low : ℕ) (u : ℕ × Use) (us : Uses)
    (code : Code) → IsOfLine ts act → Tells c ts low (u ∷ us) → low ≤ u.0 → Rises (u.0 + 1) us →
    at_line c ts act n (record { part = u.0 + 2; code = code }) ≡ misused code (sort_of c (name_of u.1)) u.1
first_test c ts act n low u us code o h l r = line_test c ts act n u.0 code o ∙ h code u.0 l ∙ at_first code c u us r

column_at : (i : Item Terminal) (k : ℕ) → column_of i (k + 2) ≡ nth i.columns k
column_at i k = ap (column_of i) (two_more k)

pub first_name : (c : Context) (ts : List Lexeme) (act : Act) (n : Terminal) (i : Item Terminal) (low : ℕ) (us : Uses) →
    IsOfLine ts act → Rises low us → Tells c ts low us →
    placed_rule i (first_rule (at_line c ts act n) (use_rules us)) ≡ names_fault c (map (at_column i.columns) us)
first_name c ts act n i low [] o r h = refl
first_name c ts act n i low (u ∷ us) o r h =
    go (misused Undeclared (sort_of c (name_of u.1)) u.1) (misused BadBound (sort_of c (name_of u.1)) u.1)
    (first_test c ts act n low u us Undeclared o h r.0 r.1) (first_test c ts act n low u us BadBound o h r.0 r.1)
    (first_name c ts act n i (u.0 + 1) us o r.1
    (λ code k l. h code k (omega (arith, l, r.0)) ∙ past_first code c u us k l))
  where
    fault_at : Code → Option LineFault
    fault_at code = Some (record { code = code; column = column_of i (u.0 + 2) })

    same_fault : (code : Code) → fault_at code ≡ Some (record { code = code; column = nth i.columns u.0 })
    same_fault code =
        ap (λ (k : ℕ). (let f : LineFault = record { code = code; column = k } in Some f)) (column_at i u.0)

    go : (a b : Bool) → at_line c ts act n (record { part = u.0 + 2; code = Undeclared }) ≡ a →
        at_line c ts act n (record { part = u.0 + 2; code = BadBound }) ≡ b →
        placed_rule i (first_rule (at_line c ts act n) (use_rules us)) ≡ names_fault c (map (at_column i.columns) us) →
        placed_rule i (first_rule (at_line c ts act n) (use_rules (u ∷ us))) ≡ first_of
        (cond a (Some (record { code = Undeclared; column = nth i.columns u.0 }))
        (cond b (Some (record { code = BadBound; column = nth i.columns u.0 })) None))
        (names_fault c (map (at_column i.columns) us))
    go true b e f more = rw e (same_fault Undeclared)
    go false true e f more = rw (e, f) (same_fault BadBound)
    go false false e f more = rw (e, f) more
