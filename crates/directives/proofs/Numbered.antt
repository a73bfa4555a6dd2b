-- The machine over a line's tokens with their columns, and with their numbers.
use Rattle.std.proofs.Common.{◌≡◌, ℕ, zero, suc, ◌+◌, List, [], ◌∷◌, drop, map, Option, Some, None, refl, ap, ◌∙◌, arith}
use Rattle.base.specs.declared.fault.ReadCode.{ReadCode as Code}
use Rattle.c_grammar.specs.Lexeme.{Lexeme, Placed}
use Rattle.c_grammar.specs.Texts.{Item, next_of}
use Rattle.c_grammar.specs.Machine.{Found, judged, kept, refused, run as machine_run}
use Rattle.c_grammar.specs.LineGrammar.{LineAct}
use Rattle.c_grammar.specs.LineRules.{LineContext, line_begin, line_enter, line_grammar}
use Rattle.c_grammar.specs.LineMachine.{LineStack, line_start, line_machine, line_advance, line_first_broken}
use Rattle.c_grammar.specs.Lines.{numbered, place_and_code, line_fault}
use Rattle.c_grammar.specs.Source.{nth}
use Rattle.directives.specs.declared.fault.LineFault.{LineFault}
use Rattle.directives.specs.Cursor.{item_of}
use Rattle.directives.specs.Reading.{run, found_fault}
use Rattle.directives.specs.Spells.{columns_of, kinds_of, at_columns}

-- ---- columns

pub nth_first : (all : List ℕ) (k c : ℕ) (cs : List ℕ) → drop k all ≡ c ∷ cs → nth all k ≡ c
nth_first [] zero c cs e = absurd cc
nth_first [] (suc k) c cs e = absurd cc
nth_first (d ∷ ds) zero c cs e = cc
nth_first (d ∷ ds) (suc k) c cs e = nth_first ds k c cs e

drop_suc : (all : List ℕ) (k c : ℕ) (cs : List ℕ) → drop k all ≡ c ∷ cs → drop (suc k) all ≡ cs
drop_suc [] zero c cs e = absurd cc
drop_suc [] (suc k) c cs e = absurd cc
drop_suc (d ∷ ds) zero c cs e = cc
drop_suc (d ∷ ds) (suc k) c cs e = drop_suc ds k c cs e

pub drop_next : (all : List ℕ) (k c : ℕ) (cs : List ℕ) → drop k all ≡ c ∷ cs → drop (k + 1) all ≡ cs
drop_next all k c cs e =
    let one : k + 1 ≡ suc k = omega arith in
    ap (λ (n : ℕ). drop n all) one ∙ drop_suc all k c cs e

-- ---- faults

abbrev Answer : Type 0
Answer = Option (Found line_grammar line_machine)

abbrev Go : Type 0
Go = LineContext → LineStack → Answer

abbrev numbered_item : ℕ → Lexeme → Item Lexeme
numbered_item k t = record { terminal = t; line = 0; column = k; columns = [] }

-- what is answered of a fault by the number of its token
abbrev by_number : List ℕ → Answer → Option LineFault
by_number all o = at_columns all (place_and_code o)

next_same : (k : ℕ) (ps : List Placed) →
    next_of line_grammar (numbered k (kinds_of ps)) ≡ next_of line_grammar (map item_of ps)
next_same k [] = refl
next_same k (p ∷ ps) = refl

at_column : (all : List ℕ) (k : ℕ) (p : Placed) (code : Code) → nth all k ≡ p.column →
    at_columns all (Some (k, code)) ≡ Some (record { code = code; column = p.column })
at_column all k p code e = ap (λ (n : ℕ). (let f : LineFault = record { code = code; column = n } in Some f)) e

kept_same : (all : List ℕ) (k : ℕ) (p : Placed) (c : LineContext) (r : Option Code × LineAct) (s : LineStack)
    (b : Option Code) (go go' : Go) → nth all k ≡ p.column →
    ((e : LineContext) (t : LineStack) → by_number all (go e t) ≡ found_fault (go' e t)) →
    by_number all (kept line_grammar line_machine c (numbered_item k p.lexeme) r s b go) ≡ found_fault
    (kept line_grammar line_machine c (item_of p) r s b go')
kept_same all k p c r s None go go' e more = more (line_enter c (p.lexeme, r)) s
kept_same all k p c r s (Some code) go go' e more = at_column all k p code e

judged_same : (all : List ℕ) (k : ℕ) (p : Placed) (c : LineContext) (s : LineStack) (n : Lexeme)
    (o : Option ((Option Code × LineAct) × LineStack)) (go go' : Go) → nth all k ≡ p.column →
    ((e : LineContext) (t : LineStack) → by_number all (go e t) ≡ found_fault (go' e t)) →
    by_number all (judged line_grammar line_machine c s (numbered_item k p.lexeme) n o go) ≡ found_fault
    (judged line_grammar line_machine c s (item_of p) n o go')
judged_same all k p c s n None go go' e more = at_column all k p (refused line_grammar line_machine s p.lexeme) e
judged_same all k p c s n (Some move) go go' e more =
    kept_same all k p c move.0 move.1 (line_first_broken c (p.lexeme, move.0) n) go go' e more

same_answer : (all : List ℕ) (k : ℕ) (ps : List Placed) (c : LineContext) (s : LineStack) → drop k all ≡ columns_of ps →
    by_number all (machine_run line_grammar line_machine c s (numbered k (kinds_of ps))) ≡ found_fault
    (machine_run line_grammar line_machine c s (map item_of ps))
unfolding machine_run
same_answer all k [] c s d = refl
same_answer all k (p ∷ ps) c s d =
    let go : Go = λ e t. machine_run line_grammar line_machine e t (numbered (k + 1) (kinds_of ps)) in
    let go' : Go = λ e t. machine_run line_grammar line_machine e t (map item_of ps) in
    ap (λ (n : Lexeme). by_number all
    (judged line_grammar line_machine c s (numbered_item k p.lexeme) n (line_advance s p.lexeme) go))
    (next_same (k + 1) ps)
    ∙ judged_same all k p c s (next_of line_grammar (map item_of ps)) (line_advance s p.lexeme) go go'
    (nth_first all k p.column (columns_of ps) d)
    (λ e t. same_answer all (k + 1) ps e t (drop_next all k p.column (columns_of ps) d))

pub answer_is : (ps : List Placed) →
    at_columns (columns_of ps) (line_fault (kinds_of ps)) ≡ run line_begin line_start (map item_of ps)
unfolding line_fault run
answer_is ps = same_answer (columns_of ps) 0 ps line_begin line_start refl
