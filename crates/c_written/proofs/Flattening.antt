-- One token after another, with or without an array of several dimensions.
use Rattle.std.proofs.Common.{◌≡◌, ◌∙◌, ℕ, zero, suc, ◌-◌, ◌<◌, Bool, true, false, take, length, List, [], ◌∷◌, ◌++◌, Option, Some, None, refl, sym, ap, arith, append_assoc}
use Rattle.std.proofs.lemmas.List.{append-nil}
use Rattle.std.specs.Prelude.{◌&&◌, ◌||◌, not, if◌then◌else◌}
use Rattle.std.specs.Option.{IsSome, is_some}
use Rattle.c_tokens.specs.declared.kind.Sign.TheVariants as sign
use Rattle.c_grammar.specs.Lexeme.{Lexeme, Uint64}
use Rattle.c_grammar.specs.Terminal.{Terminal, Fixed, Mark, Name, Num, Line, Unknown, Unworked, End, same}
use Rattle.c_grammar.specs.Texts.{Item}
use Rattle.c_grammar.specs.Blocks.{Items, bare, is_directive}
use Rattle.c_grammar.specs.Changes.{is_mark}
use Rattle.c_grammar.specs.Expressions.{value_of}
use Rattle.c_grammar.specs.Functions.{index_len}
use Rattle.c_grammar.specs.Grids.{Declared, Grids, Ranges, Open, Onward, declared, declared_as, flat, flat_line, grid_on, has_second, is_row, named_on, opens_index, row_begins, token_on}
use Rattle.directives.specs.Ahead.{seen_line}
use Rattle.directives.specs.Spells.{kinds_of}
use Rattle.c_terminals.specs.declared.token.Terminal.{Terminal as Given}
use Rattle.c_terminals.specs.declared.token.Terminal.TheVariants as given
use Rattle.c_terminals.specs.declared.token.Token.{Token}
use Rattle.c_written.specs.declared.grids.Grids.{Grids as GivenGrids}
use Rattle.c_written.specs.Grids.{GoesOn, HasPut, Row, columns_of, once_or_twice, open_of, row_at, row_of, row_on, twice_at, twice_of, with_grids}
use Rattle.c_terminals.specs.Held.{written_all}
use Rattle.c_written.specs.Indices.{ranges_of}
use Rattle.c_written.specs.Stack.{held}
use Rattle.c_written.specs.Values.{seen_values}
use Rattle.c_terminals.specs.Seen.{columns_in, seen_all, seen_terminal}

pub take_next : (k : ℕ) (is js : Items) (i : Item Terminal) → is ≡ i ∷ js → 0 < k → take k is ≡ i ∷ take (k - 1) js
take_next zero is js i e h = absurd (omega arith)
take_next (suc k) is js i e h =
    ap (take (suc k)) e ∙ ap (λ (n : ℕ). i ∷ take n js) (let one : k ≡ suc k - 1 = omega arith in one)

-- ---- the number of rows

no_line : (t v : Terminal) (ts : List Lexeme) → declared_as t (Line ts) v ≡ None
no_line (Fixed w) v ts = refl
no_line (Mark s) v ts = refl
no_line (Name x) v ts = refl
no_line (Num n) v ts = refl
no_line (Line us) v ts = refl
no_line Unknown v ts = refl
no_line Unworked v ts = refl
no_line End v ts = refl

-- where three dimensions are asked for, two are declared
looser : (a b c d e : Bool) (o : Option Declared) → IsSome (if a && b && c && d && e then o else None) →
    IsSome (if a && b && c && d && true then o else None)
looser true true true true true o h = h
looser true true true true false o h = absurd (let no : false ≡ true = h in cc)
looser false b c d e o h = absurd (let no : false ≡ true = h in cc)
looser true false c d e o h = absurd (let no : false ≡ true = h in cc)
looser true true false d e o h = absurd (let no : false ≡ true = h in cc)
looser true true true false e o h = absurd (let no : false ≡ true = h in cc)

pub declared_anyway : (deep : Bool) (is : Items) → IsSome (declared deep is) → IsSome (declared false is)
declared_anyway deep [] h = h
declared_anyway deep (x ∷ []) h = h
declared_anyway deep (x ∷ o ∷ []) h = h
declared_anyway deep (x ∷ o ∷ n ∷ []) h = h
declared_anyway deep (x ∷ o ∷ n ∷ c ∷ []) h = h
declared_anyway deep (x ∷ o ∷ n ∷ c ∷ p ∷ []) h = h
declared_anyway deep (x ∷ o ∷ n ∷ c ∷ p ∷ m ∷ []) h = h
declared_anyway deep (x ∷ o ∷ n ∷ c ∷ p ∷ m ∷ d ∷ is) h =
    looser (is_mark sign.OpenBracket o) (is_mark sign.CloseBracket c) (is_mark sign.OpenBracket p) (is_mark sign.CloseBracket d)
    (not deep || opens_index is) (declared_as x.terminal n.terminal m.terminal) h

-- it is no line, so it has no columns
pub number_alone : (b : Bool) (t v : Terminal) (u : Given) →
    IsSome (if b then declared_as t (seen_terminal u) v else None) → columns_in u ≡ []
number_alone b t v (given.Word w) h = refl
number_alone b t v (given.Sign s) h = refl
number_alone b t v (given.Name x) h = refl
number_alone b t v (given.Number n) h = refl
number_alone b t v given.BadNumber h = refl
number_alone true t v (given.Line l) h =
    absurd (let no : false ≡ true = ap is_some (sym (no_line t v (kinds_of (seen_line l.now)))) ∙ h in cc)
number_alone false t v (given.Line l) h = absurd (let no : false ≡ true = h in cc)
number_alone b t v given.Unknown h = refl
number_alone b t v given.Unworked h = refl

-- ---- what goes on

pub goes_on : (old new : GivenGrids) (is : Items) (gs : Grids) (rs : Ranges) (os : Open) (k : ℕ) →
    written_all new.done.items ≡ written_all old.done.items ++ is → columns_of new ≡ gs → ranges_of new.ranges ≡ rs →
    open_of new ≡ os → new.left ≡ k → GoesOn old (λ fs qs ns go. is ++ go gs rs os k) new
goes_on old new is gs rs os k done columns ranges brackets left go =
    sym (append_assoc (written_all old.done.items) is (go gs rs os k))
    ∙ (λ j. sym done j ++ go (sym columns j) (sym ranges j) (sym brackets j) (sym left j))

pub put_more : (old mid new : GivenGrids) (is js : Items) → HasPut old is mid → HasPut mid js new →
    HasPut old (is ++ js) new
put_more old mid new is js h k = record {
  done = k.done ∙ ap (λ (xs : Items). xs ++ js) h.done ∙ append_assoc (written_all old.done.items) is js;
  columns = k.columns ∙ h.columns;
  ranges = k.ranges ∙ h.ranges;
  brackets = k.brackets ∙ h.brackets;
  left = k.left ∙ h.left;
}

-- one more token, and all that was read stays
pub put_goes : (old new : GivenGrids) (i : Item Terminal) → HasPut old (i ∷ []) new →
    GoesOn old (λ gs rs os go. i ∷ go gs rs os old.left) new
put_goes old new i h go =
    goes_on old new (i ∷ []) _ _ _ _ h.done (ap (λ v. seen_values v) h.columns) (ap (λ r. ranges_of r) h.ranges)
    (ap (λ b. held b) h.brackets) h.left go

-- ---- a name

-- one more token, or two, where none was left out
pub name_goes : (old new : GivenGrids) (i : Item Terminal) (twice : Bool) → old.left ≡ 0 →
    HasPut old (once_or_twice i twice) new → GoesOn old (λ gs rs os. row_on gs rs os i None twice) new
name_goes old new i twice e h go =
    (λ j. written_all old.done.items
    ++ (once_or_twice i twice ++ go (columns_of old) (ranges_of old.ranges) (open_of old) (sym e j)))
    ∙ goes_on old new (once_or_twice i twice) _ _ _ _ h.done (ap (λ v. seen_values v) h.columns)
    (ap (λ r. ranges_of r) h.ranges) (ap (λ b. held b) h.brackets) h.left go

chosen : (b c : Bool) (i o : Item Terminal) (m : ℕ) (gs : Grids) (rs : Ranges) (os : Open) (go : Onward) →
    (if b then i ∷ (row_begins m o ++ go gs rs (Some m ∷ os) 1)
    else (if c then i ∷ i ∷ go gs rs os 0 else i ∷ go gs rs os 0))
    ≡ row_on gs rs os i (if b then Some (o, m) else None) c go
chosen true c i o m gs rs os go = refl
chosen false true i o m gs rs os go = refl
chosen false false i o m gs rs os go = refl

grid_is : (deep : Bool) (gs : Grids) (rs : Ranges) (os : Open) (i : Item Terminal) (is : Items) (m : Option ℕ) (go : Onward) →
    grid_on deep gs rs os i is m go ≡ row_on gs rs os i (row_of rs m is) (twice_of deep m is) go
grid_is deep gs rs os i [] None go = refl
grid_is deep gs rs os i [] (Some m) go = refl
grid_is deep gs rs os i (o ∷ is) None go = refl
grid_is deep gs rs os i (o ∷ is) (Some m) go =
    chosen (is_mark sign.OpenBracket o && has_second rs m (o ∷ is) (index_len 0 0 (o ∷ is)))
    (is_mark sign.OpenBracket o && (deep || is_row (o ∷ is) (index_len 0 0 (o ∷ is)))) i o m gs rs os go

named_is : (deep : Bool) (gs : Grids) (rs : Ranges) (os : Open) (i : Item Terminal) (t : Terminal) (is : Items) (go : Onward) →
    named_on deep gs rs os i t is go ≡ row_on gs rs os i (row_at gs rs t is) (twice_at deep gs t is) go
named_is deep gs rs os i (Name x) is go = grid_is deep gs rs os i is (value_of gs x) go
named_is deep gs rs os i (Fixed w) is go = refl
named_is deep gs rs os i (Mark s) is go = refl
named_is deep gs rs os i (Num n) is go = refl
named_is deep gs rs os i (Line ts) is go = refl
named_is deep gs rs os i Unknown is go = refl
named_is deep gs rs os i Unworked is go = refl
named_is deep gs rs os i End is go = refl

named_token : (deep : Bool) (gs : Grids) (rs : Ranges) (os : Open) (i : Item Terminal) (is : Items) (o : Option Row) →
    same (Fixed Uint64) i.terminal ≡ false → is_mark sign.OpenBracket i ≡ false → is_mark sign.CloseBracket i ≡ false →
    o ≡ row_at gs rs i.terminal is → (go : Onward) →
    token_on deep gs rs os i is go ≡ row_on gs rs os i o (twice_at deep gs i.terminal is) go
named_token deep gs rs os i is o a b c e go =
    rw (a, b, c) (named_is deep gs rs os i i.terminal is go
    ∙ ap (λ (r : Option Row). row_on gs rs os i r (twice_at deep gs i.terminal is) go) (sym e))

pub row_goes : (deep : Bool) (old new : GivenGrids) (i : Item Terminal) (is : Items) (o : Option Row) →
    same (Fixed Uint64) i.terminal ≡ false → is_mark sign.OpenBracket i ≡ false → is_mark sign.CloseBracket i ≡ false →
    o ≡ row_at (columns_of old) (ranges_of old.ranges) i.terminal is →
    GoesOn old (λ gs rs os. row_on gs rs os i o (twice_at deep (columns_of old) i.terminal is)) new →
    GoesOn old (λ gs rs os. token_on deep gs rs os i is) new
row_goes deep old new i is o a b c e h go =
    ap (λ (js : Items). written_all old.done.items ++ js)
    (named_token deep (columns_of old) (ranges_of old.ranges) (open_of old) i is o a b c e go) ∙ h go

-- ---- all tokens

pub flat_end : (deep : Bool) (gs : Grids) (rs : Ranges) (os : Open) (k : ℕ) → flat deep gs rs os k [] ≡ []
flat_end deep gs rs os k = refl

pub flat_directive : (deep : Bool) (gs : Grids) (rs : Ranges) (os : Open) (k : ℕ) (i : Item Terminal) (is : Items) →
    is_directive i.terminal ≡ true → flat deep gs rs os k (i ∷ is) ≡ flat_line gs i i.terminal ∷ flat deep gs rs os k is
flat_directive deep gs rs os k i is e = rw e refl

pub flat_left : (deep : Bool) (gs : Grids) (rs : Ranges) (os : Open) (k : ℕ) (i : Item Terminal) (is : Items) →
    is_directive i.terminal ≡ false → 0 < k → flat deep gs rs os k (i ∷ is) ≡ flat deep gs rs os (k - 1) is
flat_left deep gs rs os zero i is e h = absurd (omega arith)
flat_left deep gs rs os (suc k) i is e h =
    rw e (ap (λ (n : ℕ). flat deep gs rs os n is) (let one : k ≡ suc k - 1 = omega arith in one))

pub flat_token : (deep : Bool) (gs : Grids) (rs : Ranges) (os : Open) (k : ℕ) (i : Item Terminal) (is : Items) →
    is_directive i.terminal ≡ false → k ≡ 0 →
    flat deep gs rs os k (i ∷ is) ≡ token_on deep gs rs os i (bare is) (λ gs rs os k. flat deep gs rs os k is)
flat_token deep gs rs os zero i is e h = rw e refl
flat_token deep gs rs os (suc k) i is e h = absurd (omega (arith, h))

pub all_flat : (deep : Bool) (g : GivenGrids) (ts : List Token) (js : Items) → length ts < 1 → with_grids deep g (seen_all ts) ≡ js →
    written_all g.done.items ≡ js
all_flat deep g [] js h e =
    sym (append-nil (written_all g.done.items))
    ∙ ap (λ (is : Items). written_all g.done.items ++ is)
    (sym (flat_end deep (columns_of g) (ranges_of g.ranges) (open_of g) g.left)) ∙ e
all_flat deep g (t ∷ ts) js h e = absurd (omega arith)
