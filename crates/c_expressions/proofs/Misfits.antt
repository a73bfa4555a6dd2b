-- The fault at a token that may not come.
use Rattle.std.proofs.Common.{◌≡◌, ℕ, suc, ◌+◌, ◌<◌, ◌≤◌, Bool, true, false, cond, List, [], ◌∷◌, length, Option, Some, None, refl, sym, ap, subst, ◌∙◌, arith}
use Rattle.std.specs.Prelude.{nat_lt, nat_le}
use Rattle.std.proofs.lemmas.Bool.Decides.{nat_tests}
use Rattle.std.proofs.Math.Bool.{and-false}
use Rattle.base.specs.declared.fault.ReadCode.{ReadCode as Code}
use Rattle.base.specs.declared.fault.ReadCode.TheVariants.{UnknownByte, BadNumber, TooMany, UnknownDirective, BadOperand}
use Rattle.c_grammar.specs.Code.{code_number, lower_code}
use Rattle.c_grammar.specs.Lexeme.{Lexeme, Placed, same}
use Rattle.c_grammar.specs.LineRules.{max_name, line_breaks, line_wrong, line_enter}
use Rattle.c_grammar.specs.LineMachine.{line_advance, line_place, line_first_broken, line_first_wrong}
use Rattle.c_grammar.specs.Machine.{run as machine_run}
use Rattle.c_grammar.specs.Terminal.{Terminal, Fixed, Mark, Name, Num, Line, Unknown, Unworked, End}
use Rattle.c_grammar.specs.Texts.{Item}
use Rattle.c_grammar.specs.Lines.{is_omp, line_fault, Use, uses_of}
use Rattle.c_grammar.specs.Rules.{Rule, rule_number, rule_here, foreign, wrong}
use Rattle.c_grammar.specs.Program.{first_rule, first_wrong, fault_rules, use_rules, joined}
use Rattle.c_grammar.specs.Source.{nth, fault_of, fault_token}
use Rattle.c_grammar.proofs.Lexemes.{same-true}
use Rattle.c_expressions.specs.declared.line.Misfit.{Misfit}
use Rattle.c_expressions.specs.Seen.{kinds_on, columns_on}
use Rattle.c_expressions.specs.Lines.{pragma, omp, misfit_on, seen_misfit, second_misfit, words_misfit}
use Rattle.c_expressions.specs.Reading.{misfit_at, fault_at}
use Rattle.c_expressions.proofs.Going.{put, put_is}
use Rattle.c_grammar.proofs.SourceLaws.{same_itself}

-- a token that breaks the rule of a code wherever it stands
number_is : (n : ℕ) (code : Code) → nat_le n (rule_number (rule_here code)) ≡ nat_le n (code_number code)
number_is n code = let e : rule_number (rule_here code) ≡ code_number code = omega arith in ap (nat_le n) e

lower_is : (i : Item Terminal) (b b' : Bool) (p q : Code) → b ≡ b' →
    fault_of i (cond b (rule_here p) (rule_here q)) ≡ fault_at i (cond b' p q)
lower_is i true true p q e = refl
lower_is i false false p q e = refl
lower_is i true false p q e = absurd cc
lower_is i false true p q e = absurd cc

item_unknown : (code : Code) (i : Item Terminal) → misfit_at (Some (rule_here code)) (put i Unknown) ≡
    fault_at i (lower_code (Some UnknownByte) code)
unfolding misfit_at first_wrong wrong
item_unknown code i = lower_is (put i Unknown) (nat_le 0 (rule_number (rule_here code)))
    (nat_le 0 (code_number code)) UnknownByte code (number_is 0 code)

item_number : (code : Code) (i : Item Terminal) → misfit_at (Some (rule_here code)) (put i (Num None)) ≡
    fault_at i (lower_code (Some BadNumber) code)
unfolding misfit_at first_wrong wrong
item_number code i = lower_is (put i (Num None)) (nat_le 4 (rule_number (rule_here code)))
    (nat_le 4 (code_number code)) BadNumber code (number_is 4 code)

item_long : (code : Code) (i : Item Terminal) (x : List ℕ) → nat_lt max_name (length x) ≡ true →
    misfit_at (Some (rule_here code)) (put i (Name x)) ≡ fault_at i (lower_code (Some TooMany) code)
unfolding misfit_at first_wrong wrong
item_long code i x h = rw h (lower_is (put i (Name x)) (nat_le 9 (rule_number (rule_here code)))
    (nat_le 9 (code_number code)) TooMany code (number_is 9 code))

item_short : (code : Code) (i : Item Terminal) (x : List ℕ) → nat_lt max_name (length x) ≡ false →
    misfit_at (Some (rule_here code)) (put i (Name x)) ≡ fault_at i code
unfolding misfit_at first_wrong wrong
item_short code i x h = rw h refl

pub unknown_misfits : (code : Code) (i : Item Terminal) → i.terminal ≡ Unknown →
    misfit_at (Some (rule_here code)) i ≡ fault_at i (lower_code (Some UnknownByte) code)
unknown_misfits code i e = ap (misfit_at (Some (rule_here code))) (put_is i Unknown e) ∙ item_unknown code i

pub number_misfits : (code : Code) (i : Item Terminal) → i.terminal ≡ Num None →
    misfit_at (Some (rule_here code)) i ≡ fault_at i (lower_code (Some BadNumber) code)
number_misfits code i e = ap (misfit_at (Some (rule_here code))) (put_is i (Num None) e) ∙ item_number code i

item_unworked : (code : Code) (i : Item Terminal) →
    misfit_at (Some (rule_here code)) (put i Unworked) ≡ fault_at i BadOperand
unfolding misfit_at first_wrong wrong
item_unworked code i = refl

-- it has its own code wherever it stands
pub unworked_misfits : (code : Code) (i : Item Terminal) → i.terminal ≡ Unworked →
    misfit_at (Some (rule_here code)) i ≡ fault_at i BadOperand
unworked_misfits code i e = ap (misfit_at (Some (rule_here code))) (put_is i Unworked e) ∙ item_unworked code i

pub long_misfits : (code : Code) (i : Item Terminal) (x : List ℕ) → i.terminal ≡ Name x → max_name < length x →
    misfit_at (Some (rule_here code)) i ≡ fault_at i (lower_code (Some TooMany) code)
long_misfits code i x e h =
    let long : nat_lt max_name (length x) ≡ true = grind (arith, nat_tests) in
    ap (misfit_at (Some (rule_here code))) (put_is i (Name x) e) ∙ item_long code i x long

pub short_misfits : (code : Code) (i : Item Terminal) (x : List ℕ) → i.terminal ≡ Name x → length x ≤ max_name →
    misfit_at (Some (rule_here code)) i ≡ fault_at i code
short_misfits code i x e h =
    let short : nat_lt max_name (length x) ≡ false = grind (arith, nat_tests) in
    ap (misfit_at (Some (rule_here code))) (put_is i (Name x) e) ∙ item_short code i x short

-- any other token but a line
abbrev pub IsOrdinary : Terminal → Type 0
IsOrdinary (Fixed w) = Unit {0}
IsOrdinary (Mark s) = Unit {0}
IsOrdinary (Num (Some n)) = Unit {0}
IsOrdinary End = Unit {0}
IsOrdinary _ = ⊥

item_other : (code : Code) (i : Item Terminal) (t : Terminal) → IsOrdinary t →
    misfit_at (Some (rule_here code)) (put i t) ≡ fault_at i code
unfolding misfit_at first_wrong wrong
item_other code i (Fixed w) h = refl
item_other code i (Mark s) h = refl
item_other code i (Num (Some n)) h = refl
item_other code i (Num None) h = absurd h
item_other code i End h = refl
item_other code i (Name x) h = absurd h
item_other code i (Line ts) h = absurd h
item_other code i Unknown h = absurd h
item_other code i Unworked h = absurd h

pub others_misfit : (code : Code) (i : Item Terminal) → IsOrdinary i.terminal →
    misfit_at (Some (rule_here code)) i ≡ fault_at i code
others_misfit code i h = item_other code i i.terminal h

-- ---- lines

two_more : (k : ℕ) → k + 2 ≡ suc (suc k)
two_more k = omega arith

-- a line that is not foreign has no rule of its own but that of its first byte
uses_quiet : (ts : List Lexeme) (us : List (ℕ × Use)) → first_rule (λ r. wrong r (Line ts)) (use_rules us) ≡ None
unfolding wrong
uses_quiet ts [] = refl
uses_quiet ts (u ∷ us) = rw (two_more u.0) (uses_quiet ts us)

quiet : (ts : List Lexeme) (o : Option (ℕ × Code)) → foreign (Line ts) ≡ false →
    first_rule (λ r. wrong r (Line ts)) (joined (fault_rules o) (use_rules (uses_of ts))) ≡ None
unfolding wrong
quiet ts None h = uses_quiet ts (uses_of ts)
quiet ts (Some f) h = rw h (uses_quiet ts (uses_of ts))

item_quiet : (code : Code) (i : Item Terminal) (ts : List Lexeme) → foreign (Line ts) ≡ false →
    misfit_at (Some (rule_here code)) (put i (Line ts)) ≡ fault_at i code
unfolding misfit_at first_wrong wrong
item_quiet code i ts h = rw (h, quiet ts (line_fault ts) h) refl

foreign_first : (ts : List Lexeme) (own : Code) (rs : List Rule) →
    wrong (record { part = 1; code = own }) (Line ts) ≡ true →
    first_rule (λ r. wrong r (Line ts)) (record { part = 1; code = own } ∷ rs) ≡
    Some (record { part = 1; code = own })
foreign_first ts own rs h = rw h refl

is_wrong : (ts : List Lexeme) (k : ℕ) (own : Code) → is_omp ts ≡ false → line_fault ts ≡ Some (k, own) →
    wrong (record { part = 1; code = own }) (Line ts) ≡ true
unfolding wrong
is_wrong ts k own o e = rw (o, e) (same_itself own)

line_wrong_first : (ts : List Lexeme) → first_wrong (Line ts) ≡
    first_rule (λ r. wrong r (Line ts)) (joined (fault_rules (line_fault ts)) (use_rules (uses_of ts)))
unfolding first_wrong wrong
line_wrong_first ts = refl

first_is : (ts : List Lexeme) (k : ℕ) (own : Code) → is_omp ts ≡ false → line_fault ts ≡ Some (k, own) →
    first_wrong (Line ts) ≡ Some (record { part = 1; code = own })
first_is ts k own o e = line_wrong_first ts ∙ ap (λ (f : Option (ℕ × Code)). first_rule (λ r. wrong r (Line ts))
    (joined (fault_rules f) (use_rules (uses_of ts)))) e
    ∙ foreign_first ts own (use_rules (uses_of ts)) (is_wrong ts k own o e)

is_foreign : (ts : List Lexeme) (k : ℕ) (own : Code) → is_omp ts ≡ false → line_fault ts ≡ Some (k, own) →
    foreign (Line ts) ≡ true
is_foreign ts k own o e = rw (o, e) refl

item_foreign : (code own : Code) (k : ℕ) (i : Item Terminal) (ts : List Lexeme) → is_omp ts ≡ false →
    line_fault ts ≡ Some (k, own) → misfit_at (Some (rule_here code)) (put i (Line ts)) ≡
    record { code = own; line = i.line; column = nth i.columns k }
unfolding misfit_at
item_foreign code own k i ts o e = rw (is_foreign ts k own o e, first_is ts k own o e)
    (ap (λ (f : Option (ℕ × Code)). record { code = own; line = i.line; column = nth i.columns (fault_token f) }) e)

-- ---- the words of a line

line_first : (t : Lexeme) (ts : List Lexeme) → same pragma t ≡ false →
    line_fault (t ∷ ts) ≡ Some (0, lower_code (line_first_wrong t) UnknownDirective)
unfolding line_fault machine_run line_advance line_place
line_first t ts h = rw h refl

line_alone : line_fault (pragma ∷ []) ≡ None
unfolding line_fault machine_run line_advance line_first_broken line_breaks line_wrong line_enter
line_alone = refl

line_second : (u : Lexeme) (us : List Lexeme) → same omp u ≡ false →
    line_fault (pragma ∷ u ∷ us) ≡ Some (1, lower_code (line_first_wrong u) UnknownDirective)
unfolding line_fault machine_run line_advance line_place line_first_broken line_breaks line_wrong line_enter
line_second u us h = rw h refl

-- ---- the words with their columns

-- the fault of a line is that of one of its tokens
record IsFaultOf (ps : List Placed) (f : ℕ × Code) : Type 0 where
  token : ℕ
  other : is_omp (kinds_on ps) ≡ false
  fault : line_fault (kinds_on ps) ≡ Some (token, f.1)
  column : f.0 ≡ nth (columns_on ps) token

-- what the words of a line say of it
abbrev SaysOf : List Placed → Option (ℕ × Code) → Type 0
SaysOf ps None = foreign (Line (kinds_on ps)) ≡ false
SaysOf ps (Some f) = IsFaultOf ps f

none_says : SaysOf [] None
unfolding is_omp line_fault machine_run
none_says = refl

first_omp : (t : Lexeme) (ts : List Lexeme) → same pragma t ≡ false → is_omp (t ∷ ts) ≡ false
unfolding is_omp
first_omp t [] h = refl
first_omp t (u ∷ us) h = rw h refl

second_omp : (t u : Lexeme) (us : List Lexeme) → same omp u ≡ false → is_omp (t ∷ u ∷ us) ≡ false
unfolding is_omp
second_omp t u us h = rw h (and-false (same pragma t))

both_omp : (t u : Lexeme) (us : List Lexeme) → same pragma t ≡ true → same omp u ≡ true → is_omp (t ∷ u ∷ us) ≡ true
unfolding is_omp
both_omp t u us h k = rw (h, k) refl

words_say : (ps : List Placed) → SaysOf ps (words_misfit ps)
unfolding words_misfit is_omp
words_say [] = none_says
words_say (p ∷ ps) = first (same pragma p.lexeme) refl
  where
    alone : p.lexeme ≡ pragma → SaysOf (p ∷ []) None
    alone e = rw (e, line_alone) refl

    second : (qs : List Placed) → same pragma p.lexeme ≡ true → SaysOf (p ∷ qs) (second_misfit qs)
    second [] h = alone (sym (same-true pragma p.lexeme h))
    second (q ∷ qs) h = other (same omp q.lexeme) refl
      where
        is_pragma : p.lexeme ≡ pragma
        is_pragma = sym (same-true pragma p.lexeme h)

        other : (b : Bool) → same omp q.lexeme ≡ b → SaysOf (p ∷ q ∷ qs) (second_misfit (q ∷ qs))
        other true k = rw (k, both_omp p.lexeme q.lexeme (kinds_on qs) h k) refl
        other false k = rw k (record {
          token = 1;
          other = second_omp p.lexeme q.lexeme (kinds_on qs) k;
          fault = ap (λ (t : Lexeme). line_fault (t ∷ q.lexeme ∷ kinds_on qs)) is_pragma
              ∙ line_second q.lexeme (kinds_on qs) k;
          column = refl;
        })

    first : (b : Bool) → same pragma p.lexeme ≡ b → SaysOf (p ∷ ps) (cond b (second_misfit ps) (Some (misfit_on p)))
    first true h = second ps h
    first false h = record {
      token = 0;
      other = first_omp p.lexeme (kinds_on ps) h;
      fault =
          line_first p.lexeme (kinds_on ps) h;
      column = refl;
    }

says : (ps : List Placed) (o : Option (ℕ × Code)) → o ≡ words_misfit ps → SaysOf ps o
says ps o e = subst (λ (u : Option (ℕ × Code)). SaysOf ps u) (sym e) (words_say ps)

pub line_misfits : (code : Code) (i : Item Terminal) (ps : List Placed) → i.terminal ≡ Line (kinds_on ps) →
    None ≡ words_misfit ps → misfit_at (Some (rule_here code)) i ≡ fault_at i code
line_misfits code i ps e h = ap (misfit_at (Some (rule_here code))) (put_is i (Line (kinds_on ps)) e)
    ∙ item_quiet code i (kinds_on ps) (says ps None h)

pub foreign_misfits : (code : Code) (i : Item Terminal) (ps : List Placed) (f : Misfit) →
    i.terminal ≡ Line (kinds_on ps) → i.columns ≡ columns_on ps → Some (seen_misfit f) ≡ words_misfit ps →
    misfit_at (Some (rule_here code)) i ≡ record { code = f.code; line = i.line; column = f.column }
foreign_misfits code i ps f e cs h =
    let w = says ps (Some (seen_misfit f)) h in
    ap (misfit_at (Some (rule_here code))) (put_is i (Line (kinds_on ps)) e)
    ∙ item_foreign code f.code w.token i (kinds_on ps) w.other w.fault
    ∙ ap (λ (c : ℕ). record { code = f.code; line = i.line; column = c })
    (ap (λ (columns : List ℕ). nth columns w.token) cs ∙ sym w.column)
