-- A line without a fault collapses no more loops than it may.
use Rattle.std.proofs.Common.{◌≡◌, ℕ, ◌+◌, ◌≤◌, Bool, true, false, List, [], ◌∷◌, Option, Some, None, refl, subst, arith}
use Rattle.std.specs.Prelude.{◌||◌, ◌==◌, nat_lt}
use Rattle.std.proofs.lemmas.Bool.Decides.{nat_tests}
use Rattle.base.specs.declared.fault.ReadCode.{ReadCode as Code}
use Rattle.base.specs.declared.fault.ReadCode.TheVariants.{BadOperand}
use Rattle.c_grammar.specs.Lexeme.{Lexeme, Reserved, Signed, Worded, Numbered, Strange, Ended, Placed as PlacedLexeme}
use Rattle.c_grammar.specs.LineGrammar.{LineAct, Plain, Demands, Meets, Once, Ends, Maps, Depends, Heads, Modifies, Numbers, Amounts, Chunks, Opens, Begins, BeginsNamed, Times, Collapse, NumTeams, ThreadLimit, NumThreads, SimdLen, SafeLen, DirectiveKind, Target, Data, Enter, Exit, Update, Wait, AtomicUpdate, Combined}
use Rattle.c_grammar.specs.LineMachine.{LineStack, line_advance, line_first_broken, line_machine, line_start}
use Rattle.c_grammar.specs.LineRules.{LineContext, line_begin, line_breaks, line_breaks_act, line_enter, line_grammar, line_wrong, max_collapse}
use Rattle.c_grammar.specs.Lines.{collapse_from, collapse_on, collapsed, depth_kind, depth_of, kind_of, line_depth, line_fault, numbered, place_and_code}
use Rattle.c_grammar.specs.Machine.{Found, judged, kept, run}
use Rattle.c_grammar.specs.Texts.{Item, next_of}
use Rattle.c_grammar.proofs.LineRuled.{line_none_broken}
use Rattle.directives.specs.declared.tree.Directive.{Directive}
use Rattle.directives.specs.Names.{IsInSource}
use Rattle.directives.specs.Spells.{at_columns, columns_of, kinds_of, line_answer}
use Rattle.directives.specs.Trees.{text_of}

-- ---- a token that breaks no rule

number_few : (n : ℕ) (b : Bool) → (b || nat_lt max_collapse n) ≡ false → n ≤ max_collapse
number_few n true h = absurd cc
number_few n false h = grind (arith, nat_tests)

act_few : (c : LineContext) (t : Lexeme) (a : LineAct) (next : Lexeme) (d : ℕ) → d ≤ max_collapse →
    line_breaks_act BadOperand c t a next ≡ false → collapsed t a d ≤ max_collapse
act_few c (Reserved w) a next d l h = l
act_few c (Signed s) a next d l h = l
act_few c (Worded x) a next d l h = l
act_few c (Numbered None) a next d l h = l
act_few c (Numbered (Some n)) (Amounts Collapse) next d l h = number_few n (n == 0) h
act_few c (Numbered (Some n)) (Amounts NumTeams) next d l h = l
act_few c (Numbered (Some n)) (Amounts ThreadLimit) next d l h = l
act_few c (Numbered (Some n)) (Amounts NumThreads) next d l h = l
act_few c (Numbered (Some n)) (Amounts SimdLen) next d l h = l
act_few c (Numbered (Some n)) (Amounts SafeLen) next d l h = l
act_few c (Numbered (Some n)) Plain next d l h = l
act_few c (Numbered (Some n)) Demands next d l h = l
act_few c (Numbered (Some n)) Meets next d l h = l
act_few c (Numbered (Some n)) (Once w) next d l h = l
act_few c (Numbered (Some n)) Ends next d l h = l
act_few c (Numbered (Some n)) Maps next d l h = l
act_few c (Numbered (Some n)) Depends next d l h = l
act_few c (Numbered (Some n)) Heads next d l h = l
act_few c (Numbered (Some n)) Modifies next d l h = l
act_few c (Numbered (Some n)) Numbers next d l h = l
act_few c (Numbered (Some n)) Chunks next d l h = l
act_few c (Numbered (Some n)) Opens next d l h = l
act_few c (Numbered (Some n)) Begins next d l h = l
act_few c (Numbered (Some n)) BeginsNamed next d l h = l
act_few c (Numbered (Some n)) Times next d l h = l
act_few c Strange a next d l h = l
act_few c Ended a next d l h = l

token_few : (c : LineContext) (t : Lexeme) (r : Option Code × LineAct) (next : Lexeme) (d : ℕ) → d ≤ max_collapse →
    line_breaks BadOperand c (t, r) next ≡ false → collapsed t r.1 d ≤ max_collapse
unfolding line_breaks line_wrong
token_few c t r next d l h = act_few c t r.1 next d l h

-- ---- all of them

-- from any token on
abbrev Few : List Lexeme → ℕ → Type 0
Few ts k = (d : ℕ) (c : LineContext) (s : LineStack) → d ≤ max_collapse →
    run line_grammar line_machine c s (numbered k ts) ≡ None → collapse_from d s ts ≤ max_collapse

abbrev Go : Type 0
Go = LineContext → LineStack → Option (Found line_grammar line_machine)

abbrev going : List Lexeme → ℕ → Go
going ts k = λ c s. run line_grammar line_machine c s (numbered k ts)

entered_few : (ts : List Lexeme) (k d : ℕ) (c : LineContext) (i : Item Lexeme) (next : Lexeme)
    (r : Option Code × LineAct) (s : LineStack) (o : Option Code) → d ≤ max_collapse → Few ts k →
    line_first_broken c (i.terminal, r) next ≡ o →
    kept line_grammar line_machine c i r s o (going ts k) ≡ None →
    collapse_from (collapsed i.terminal r.1 d) s ts ≤ max_collapse
entered_few ts k d c i next r s (Some q) l more e h = absurd cc
entered_few ts k d c i next r s None l more e h =
    more (collapsed i.terminal r.1 d) (line_enter c (i.terminal, r)) s
    (token_few c i.terminal r next d l (line_none_broken c (i.terminal, r) next BadOperand e)) h

move_few : (ts : List Lexeme) (k d : ℕ) (c : LineContext) (s : LineStack) (i : Item Lexeme) (next : Lexeme)
    (m : Option ((Option Code × LineAct) × LineStack)) → d ≤ max_collapse → Few ts k →
    judged line_grammar line_machine c s i next m (going ts k) ≡ None →
    collapse_on i.terminal d m (λ d s. collapse_from d s ts) ≤ max_collapse
move_few ts k d c s i next None l more h = absurd cc
move_few ts k d c s i next (Some m) l more h =
    entered_few ts k d c i next m.0 m.1 (line_first_broken c (i.terminal, m.0) next) l more refl h

tokens_few : (ts : List Lexeme) (k : ℕ) → Few ts k
unfolding run collapse_from
tokens_few [] k d c s l h = l
tokens_few (t ∷ ts) k d c s l h =
    move_few ts (k + 1) d c s (record { terminal = t; line = 0; column = k; columns = [] })
    (next_of line_grammar (numbered (k + 1) ts)) (line_advance s t) l (tokens_few ts (k + 1)) h

-- ---- a line

kind_few : (k : DirectiveKind) (n : ℕ) → n ≤ max_collapse → depth_kind k n ≤ max_collapse
kind_few Target n l = omega arith
kind_few Data n l = omega arith
kind_few Enter n l = omega arith
kind_few Exit n l = omega arith
kind_few Update n l = omega arith
kind_few (Combined c) n l = l
kind_few Wait n l = omega arith
kind_few AtomicUpdate n l = omega arith

found_none : (o : Option (Found line_grammar line_machine)) → place_and_code o ≡ None → o ≡ None
found_none None h = refl
found_none (Some f) h = absurd cc

fault_none : (columns : List ℕ) (o : Option (ℕ × Code)) → at_columns columns o ≡ None → o ≡ None
fault_none columns None h = refl
fault_none columns (Some f) h = absurd cc

depth_few : (ts : List Lexeme) → line_fault ts ≡ None → depth_of ts ≤ max_collapse
unfolding line_fault depth_of
depth_few ts h =
    kind_few (kind_of ts) (collapse_from 1 line_start ts)
    (tokens_few ts 0 1 line_begin line_start (omega arith)
    (found_none (run line_grammar line_machine line_begin line_start (numbered 0 ts)) h))

answered_few : (line : List PlacedLexeme) → line_answer line ≡ None →
    depth_of (kinds_of line) ≤ max_collapse
unfolding line_answer
answered_few line h =
    depth_few (kinds_of line)
    (fault_none (columns_of line) (line_fault (kinds_of line)) h)

pub few_loops : (line : List PlacedLexeme) (d : Directive) → line_answer line ≡ None →
    IsInSource line d → line_depth (text_of d) ≤ max_collapse
few_loops line d h k = subst (λ (n : ℕ). n ≤ max_collapse) k.depth (answered_few line h)
