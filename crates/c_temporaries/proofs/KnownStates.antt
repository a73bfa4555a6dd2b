-- Behind each token, and where a temporary is left out, all that known names stand for keeps a property that the
-- tokens of the program have.
use Rattle.std.proofs.Common.{ℕ, ◌+◌, ◌-◌, Bool, true, false, cond, List, [], ◌∷◌, length, Option, Some, None}
use Rattle.std.specs.Prelude.{◌&&◌, nat_le, nat_lt, ◌==◌}
use Rattle.c_tokens.specs.declared.kind.Sign.TheVariants as sign
use Rattle.c_grammar.specs.Lexeme.{For, Uint64}
use Rattle.c_grammar.specs.Terminal.{Terminal, Fixed, Mark, Name, Num, Line, Unknown, Unworked, End, same}
use Rattle.c_grammar.specs.Texts.{Item}
use Rattle.c_grammar.specs.Blocks.{Items}
use Rattle.c_grammar.specs.Constants.{is_mark}
use Rattle.c_grammar.specs.Triangles.{name_in, name_of}
use Rattle.c_temporaries.specs.Temporaries.{Known, State, Temporary, Terminals, Whole, behind, declared_at, declared_in, is_put, max_known, max_scope, max_value, may_begin, named_by, nothing_read, spent, stays, temporary_of, typed_in, value_at, value_from, value_of, with_loop}
use Rattle.c_temporaries.proofs.KnownValues.{AllHave, IfSomeHave, ItemsHave, KnownsHave, Property, WholeHas, both_have, still_have, value_has, whole_has}

module _ (p : Property) where
  -- ---- temporaries

  abbrev pub TemporaryHas : Option Temporary → Type 0
  TemporaryHas None = Unit {0}
  TemporaryHas (Some t) = AllHave p t.known.value

  chosen_temporary : (b : Bool) (o : Option Temporary) → TemporaryHas o → TemporaryHas (cond b o None)
  chosen_temporary true o h = h
  chosen_temporary false o h = tt

  temporary_has : (d : ℕ) (x : List ℕ) (o : Option Whole) → WholeHas p o → TemporaryHas (temporary_of d x o)
  temporary_has d x None h = tt
  temporary_has d x (Some w) h =
      chosen_temporary (nat_le (length w.tokens) max_value && stays max_scope x false 0 w.rest) _
      (p.sign sign.OpenParen, both_have p w.tokens (Mark sign.CloseParen ∷ []) h (p.sign sign.CloseParen, tt))

  named_has : (s : State) (t : Terminal) (is : Items) → KnownsHave p s.knowns → ItemsHave p is →
      TemporaryHas (named_by s t is)
  named_has s (Name x) is g h =
      temporary_has s.depth x (value_from s.knowns 0 nothing_read is) (whole_has p is s.knowns 0 nothing_read g tt h)
  named_has s (Fixed w) is g h = tt
  named_has s (Mark m) is g h = tt
  named_has s (Num n) is g h = tt
  named_has s (Line ts) is g h = tt
  named_has s Unknown is g h = tt
  named_has s Unworked is g h = tt
  named_has s End is g h = tt

  pub in_has : (s : State) (x : Item Terminal) (is : Items) → KnownsHave p s.knowns → p.Has x.terminal → ItemsHave p is →
      TemporaryHas (declared_in s x is)
  in_has s x [] g k h = tt
  in_has s x (e ∷ is) g k h =
      chosen_temporary (is_mark sign.Equal e && nat_lt (length s.knowns) max_known) (named_by s x.terminal is)
      (named_has s x.terminal is g h.1)

  typed_has : (s : State) (is : Items) → KnownsHave p s.knowns → ItemsHave p is → TemporaryHas (typed_in s is)
  typed_has s [] g h = tt
  typed_has s (x ∷ is) g h = in_has s x is g h.0 h.1

  pub declared_has : (s : State) (i : Item Terminal) (is : Items) → KnownsHave p s.knowns → ItemsHave p is →
      TemporaryHas (declared_at s i is)
  declared_has s i is g h = chosen_temporary (may_begin s i) (typed_in s is) (typed_has s is g h)

  -- ---- what is put in

  pub put_has : (s : State) (t : Terminal) → KnownsHave p s.knowns → IfSomeHave p (value_at s t)
  put_has s (Name x) g = go (s.left == 0)
    where
      go : (b : Bool) → IfSomeHave p (cond b None (value_of s.knowns x))
      go true = tt
      go false = value_has p s.knowns x g
  put_has s (Fixed w) g = tt
  put_has s (Mark m) g = tt
  put_has s (Num n) g = tt
  put_has s (Line ts) g = tt
  put_has s Unknown g = tt
  put_has s Unworked g = tt
  put_has s End g = tt

  spent_has : (o : Option Terminals) (s : State) → KnownsHave p s.knowns → KnownsHave p (spent o s).knowns
  spent_has o s g = go (is_put o)
    where
      go : (b : Bool) → KnownsHave p (cond b (record s { left = s.left - 1 }) s).knowns
      go true = g
      go false = g

  -- ---- behind a token

  abbrev NameHas : Option (List ℕ) → Type 0
  NameHas None = Unit {0}
  NameHas (Some x) = p.Has (Name x)

  name_has : (t : Terminal) → p.Has t → NameHas (name_of t)
  name_has (Name x) h = h
  name_has (Fixed w) h = tt
  name_has (Mark m) h = tt
  name_has (Num n) h = tt
  name_has (Line ts) h = tt
  name_has Unknown h = tt
  name_has Unworked h = tt
  name_has End h = tt

  name_in_has : (is : Items) → ItemsHave p is → NameHas (name_in is)
  name_in_has [] h = tt
  name_in_has (o ∷ []) h = tt
  name_in_has (o ∷ t ∷ []) h = tt
  name_in_has (o ∷ t ∷ x ∷ []) h = tt
  name_in_has (o ∷ t ∷ x ∷ e ∷ is) h =
      go (is_mark sign.OpenParen o && same (Fixed Uint64) t.terminal && is_mark sign.Equal e)
    where
      go : (b : Bool) → NameHas (cond b (name_of x.terminal) None)
      go true = name_has x.terminal h.1.1.0
      go false = tt

  loop_has : (d : ℕ) (o : Option (List ℕ)) (ks : List Known) → NameHas o → KnownsHave p ks →
      KnownsHave p (with_loop d o ks)
  loop_has d None ks h g = g
  loop_has d (Some x) ks h g = ((h, tt), g)

  chosen_state : (b : Bool) (s r : State) → KnownsHave p s.knowns → KnownsHave p r.knowns →
      KnownsHave p (cond b s r).knowns
  chosen_state true s r g h = g
  chosen_state false s r g h = h

  behind_has : (i : Item Terminal) (is : Items) (s : State) → ItemsHave p is → KnownsHave p s.knowns →
      KnownsHave p (behind i is s).knowns
  behind_has i is s h g =
      chosen_state (is_mark sign.OpenBrace i) _ _ g
      (chosen_state (is_mark sign.CloseBrace i) _ _ (still_have p (s.depth - 1) s.knowns g)
      (chosen_state (is_mark sign.Semicolon i) _ _ g
      (chosen_state (same (Fixed For) i.terminal) _ _
      (loop_has (s.depth + 1) (name_in is) s.knowns (name_in_has is h) g) g)))

  pub went_on_has : (i : Item Terminal) (is : Items) (o : Option Terminals) (s : State) → ItemsHave p is →
      KnownsHave p s.knowns → KnownsHave p (behind i is (spent o s)).knowns
  went_on_has i is o s h g = behind_has i is (spent o s) h (spent_has o s g)
