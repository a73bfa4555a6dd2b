-- What is put in for names is made of the program's own tokens, brackets and numbers: where each sign and each number
-- has a property, and the program's tokens have it, all that known names stand for has it.
use Rattle.std.proofs.Common.{ℕ, ◌+◌, Bool, true, false, cond, List, [], ◌∷◌, ◌++◌, Option, Some, None}
use Rattle.std.specs.Prelude.{nat_lt, ◌==◌, option_and_then}
use Rattle.std.specs.Str.{bytes_eq}
use Rattle.c_tokens.specs.declared.kind.Sign.{Sign}
use Rattle.c_tokens.specs.declared.kind.Sign.TheVariants as sign
use Rattle.c_grammar.specs.Terminal.{Terminal, Fixed, Mark, Name, Num, Line, Unknown, Unworked, End, same}
use Rattle.c_grammar.specs.Texts.{Item}
use Rattle.c_grammar.specs.Blocks.{Items}
use Rattle.c_grammar.specs.Constants.{is_mark}
use Rattle.c_temporaries.specs.Temporaries.{ADivisor, AShift, AnOperand, AnOperator, Known, Terminals, Value, Wanted, Whole, by_wanted, closed, divisor_on, is_whole, opened, operand_on, operator_on, shift_on, still_known, value_by, value_from, value_of, wanted_behind, with_known, with_number}

-- such a property
pub record Property : Type 1 where
  pub Has : Terminal → Type 0
  pub sign : (s : Sign) → Has (Mark s)
  pub number : (n : ℕ) → Has (Num (Some n))

module _ (p : Property) where
  abbrev pub AllHave : Terminals → Type 0
  AllHave [] = Unit {0}
  AllHave (t ∷ ts) = p.Has t × AllHave ts

  abbrev pub ItemsHave : Items → Type 0
  ItemsHave [] = Unit {0}
  ItemsHave (i ∷ is) = p.Has i.terminal × ItemsHave is

  abbrev pub IfSomeHave : Option Terminals → Type 0
  IfSomeHave None = Unit {0}
  IfSomeHave (Some ts) = AllHave ts

  abbrev pub KnownsHave : List Known → Type 0
  KnownsHave [] = Unit {0}
  KnownsHave (k ∷ ks) = AllHave k.value × KnownsHave ks

  pub both_have : (ts us : Terminals) → AllHave ts → AllHave us → AllHave (ts ++ us)
  both_have [] us h k = k
  both_have (t ∷ ts) us h k = (h.0, both_have ts us h.1 k)

  -- ---- names that are known

  pub value_has : (ks : List Known) (x : List ℕ) → KnownsHave ks → IfSomeHave (value_of ks x)
  value_has [] x h = tt
  value_has (k ∷ ks) x h = go (bytes_eq k.name x) (value_has ks x h.1)
    where
      go : (b : Bool) → IfSomeHave (value_of ks x) → IfSomeHave (cond b (Some k.value) (value_of ks x))
      go true r = h.0
      go false r = r

  pub still_have : (d : ℕ) (ks : List Known) → KnownsHave ks → KnownsHave (still_known d ks)
  still_have d [] h = tt
  still_have d (k ∷ ks) h = go (nat_lt d k.depth) (still_have d ks h.1)
    where
      go : (b : Bool) → KnownsHave (still_known d ks) → KnownsHave (cond b (still_known d ks) (k ∷ ks))
      go true r = r
      go false r = h

  -- ---- values

  abbrev ValueHas : Option Value → Type 0
  ValueHas None = Unit {0}
  ValueHas (Some v) = AllHave v.tokens

  chosen_value : (b : Bool) (v w : Option Value) → ValueHas v → ValueHas w → ValueHas (cond b v w)
  chosen_value true v w h k = h
  chosen_value false v w h k = k

  number_has : (n : ℕ) (v : Value) → AllHave v.tokens → AllHave (with_number n v).tokens
  number_has n v h = both_have v.tokens (Num (Some n) ∷ []) h (p.number n, tt)

  known_has : (v : Value) (o : Option Terminals) → AllHave v.tokens → IfSomeHave o → ValueHas (with_known v o)
  known_has v None h k = tt
  known_has v (Some ts) h k = both_have v.tokens ts h k

  operand_has : (ks : List Known) (v : Value) (t : Terminal) → KnownsHave ks → AllHave v.tokens →
      ValueHas (operand_on ks v t)
  operand_has ks v (Name x) g h = known_has v (value_of ks x) h (value_has ks x g)
  operand_has ks v (Num (Some n)) g h = number_has n v h
  operand_has ks v (Num None) g h = tt
  operand_has ks v (Fixed w) g h = tt
  operand_has ks v (Mark s) g h =
      chosen_value (same (Mark sign.OpenParen) (Mark s)) (Some (opened v)) None
      (both_have v.tokens (Mark sign.OpenParen ∷ []) h (p.sign sign.OpenParen, tt)) tt
  operand_has ks v (Line ts) g h = tt
  operand_has ks v Unknown g h = tt
  operand_has ks v Unworked g h = tt
  operand_has ks v End g h = tt

  divisor_has : (v : Value) (t : Terminal) → AllHave v.tokens → ValueHas (divisor_on v t)
  divisor_has v (Num (Some n)) h = chosen_value (n == 0) None (Some (with_number n v)) tt (number_has n v h)
  divisor_has v (Num None) h = tt
  divisor_has v (Name x) h = tt
  divisor_has v (Fixed w) h = tt
  divisor_has v (Mark s) h = tt
  divisor_has v (Line ts) h = tt
  divisor_has v Unknown h = tt
  divisor_has v Unworked h = tt
  divisor_has v End h = tt

  shift_has : (v : Value) (t : Terminal) → AllHave v.tokens → ValueHas (shift_on v t)
  shift_has v (Num (Some n)) h = chosen_value (nat_lt n 64) (Some (with_number n v)) None (number_has n v h) tt
  shift_has v (Num None) h = tt
  shift_has v (Name x) h = tt
  shift_has v (Fixed w) h = tt
  shift_has v (Mark s) h = tt
  shift_has v (Line ts) h = tt
  shift_has v Unknown h = tt
  shift_has v Unworked h = tt
  shift_has v End h = tt

  wanted_has : (v : Value) (t : Terminal) (o : Option Wanted) → AllHave v.tokens → p.Has t → ValueHas (by_wanted v t o)
  wanted_has v t None h k = tt
  wanted_has v t (Some w) h k = both_have v.tokens (t ∷ []) h (k, tt)

  operator_has : (v : Value) (i : Item Terminal) → AllHave v.tokens → p.Has i.terminal → ValueHas (operator_on v i)
  operator_has v i h k =
      chosen_value (is_mark sign.CloseParen i) (closed v) (by_wanted v i.terminal (wanted_behind i))
      (chosen_value (v.brackets == 0) None _ tt
      (both_have v.tokens (Mark sign.CloseParen ∷ []) h (p.sign sign.CloseParen, tt)))
      (wanted_has v i.terminal (wanted_behind i) h k)

  value_by_has : (w : Wanted) (ks : List Known) (v : Value) (i : Item Terminal) → KnownsHave ks → AllHave v.tokens →
      p.Has i.terminal → ValueHas (value_by w ks v i)
  value_by_has AnOperand ks v i g h k = operand_has ks v i.terminal g h
  value_by_has ADivisor ks v i g h k = divisor_has v i.terminal h
  value_by_has AShift ks v i g h k = shift_has v i.terminal h
  value_by_has AnOperator ks v i g h k = operator_has v i h k

  abbrev pub WholeHas : Option Whole → Type 0
  WholeHas None = Unit {0}
  WholeHas (Some w) = AllHave w.tokens

  pub whole_has : (is : Items) (ks : List Known) (n : ℕ) (v : Value) → KnownsHave ks → AllHave v.tokens →
      ItemsHave is → WholeHas (value_from ks n v is)
  whole_has [] ks n v g h k = tt
  whole_has (i ∷ is) ks n v g h k =
      go (is_whole v i) (value_by v.wanted ks v i) (value_by_has v.wanted ks v i g h k.0)
      (λ w q. whole_has is ks (n + 1) w g q k.1)
    where
      go : (b : Bool) (o : Option Value) → ValueHas o →
          ((w : Value) → AllHave w.tokens → WholeHas (value_from ks (n + 1) w is)) →
          WholeHas (cond b (Some (record { tokens = v.tokens; len = n + 1; more = is_mark sign.Comma i; rest = is }))
          (option_and_then (λ w. value_from ks (n + 1) w is) o))
      go true o q r = h
      go false None q r = tt
      go false (Some w) q r = r w q
