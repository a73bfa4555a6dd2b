-- Local arrays are written as scalars without a look at directive lines.
use Rattle.std.proofs.Common.{◌≡◌, ◌∙◌, ℕ, zero, suc, ◌+◌, Bool, true, false, cond, List, [], ◌∷◌, ◌++◌, map, take, drop, Option, Some, None, refl, ap}
use Rattle.std.specs.Prelude.{◌&&◌, ◌||◌, ◌==◌, nat_lt}
use Rattle.c_tokens.specs.declared.kind.Sign.TheVariants as sign
use Rattle.c_grammar.specs.Lexeme.{Uint64, For}
use Rattle.c_grammar.specs.Terminal.{Terminal, Fixed, Mark, Name, Num, Line, Unknown, Unworked, End, same}
use Rattle.c_grammar.specs.Texts.{Item}
use Rattle.c_grammar.specs.Blocks.{Items, at, bare, is_directive}
use Rattle.c_grammar.specs.Choices.{brackets_behind}
use Rattle.c_grammar.specs.Constants.{is_mark}
use Rattle.c_grammar.specs.Expressions.{placed_of}
use Rattle.c_grammar.specs.Loops.{is_word}
use Rattle.c_grammar.specs.Triangles.{Loop, len, loop_in}
use Rattle.c_grammar.specs.Locals.{Cells, Declared, Index, Onward, Open, Pass, Put, Replace, State, Unroll, array_of, begin, body_len, body_put, cell_name, declared, declared_put, has_array, hides, in_scalars, in_settings, index_in, indexed_put, is_unrolled, line_at, line_twice, list_len, listed_put, loop_put, max_ahead, max_cells, max_index, named_put, next_setting, numbers_of, or_plain, put, put_at, put_len, scalars, scalars_put, scan, scan_on, setting, settings, turns, turns_put, twice, unrolled, unrolled_at, used_put, with_array, with_number}
use Rattle.c_grammar.proofs.BareTokens.{ArePlain, IsBare, IsPlain, both_plain, either_plain, plain_bare, same_bare, some}
use Rattle.c_grammar.proofs.BareCalls.{drop_plain, take_plain}
use Rattle.c_grammar.proofs.BarePresence.{omp_stays}

-- ---- what is put has no directive line

scalars_plain : (n : ℕ) (i x : Item Terminal) (k : ℕ) → IsPlain i → ArePlain (scalars i x k n)
scalars_plain zero i x k h = tt
scalars_plain (suc n) i x k h = (h, (refl, (refl, (refl, (refl, scalars_plain n i x (k + 1) h)))))

setting_plain : (i : Item Terminal) (x : List ℕ) (c : ℕ) → ArePlain (setting i x c)
setting_plain i x c = (refl, (refl, (refl, (refl, (refl, tt)))))

next_plain : (i : Item Terminal) (x : List ℕ) (c : ℕ) (is : Items) → ArePlain (next_setting i x c is)
next_plain i x c [] = tt
next_plain i x c (j ∷ is) = (refl, setting_plain i x c)

settings_plain : (is : Items) (x : List ℕ) (c b : ℕ) → ArePlain is → ArePlain (settings x c b is)
settings_plain [] x c b h = tt
settings_plain (i ∷ is) x c b h =
    either_plain ((b == 0) && is_mark sign.Comma i) _ _
    (both_plain (next_setting i x (c + 1) is) _ (next_plain i x (c + 1) is) (settings_plain is x (c + 1) b h.1))
    (h.0, settings_plain is x c (brackets_behind i b) h.1)

in_settings_plain : (front : Items) (d : Declared) (is : Items) → ArePlain front → ArePlain is →
    ArePlain (in_settings front d is)
in_settings_plain front d is f h =
    both_plain front _ f (
      refl,
      both_plain (setting d.item d.name 0) _ (setting_plain d.item d.name 0)
          (both_plain (settings d.name 0 0 is) _ (settings_plain is d.name 0 0 h) (refl, tt)),
    )

number_plain : (x : List ℕ) (n : ℕ) (i : Item Terminal) → IsPlain i → IsPlain (with_number x n i)
number_plain x n i h = go (is_word x i)
  where
    go : (b : Bool) → IsPlain (cond b (at i (Num (Some n))) i)
    go true = refl
    go false = h

numbers_plain : (is : Items) (x : List ℕ) (n : ℕ) → ArePlain is → ArePlain (map (with_number x n) is)
numbers_plain [] x n h = tt
numbers_plain (i ∷ is) x n h = (number_plain x n i h.0, numbers_plain is x n h.1)

turns_plain : (ns : List ℕ) (i : Item Terminal) (x : List ℕ) (is : Items) → ArePlain is → ArePlain (turns i x is ns)
turns_plain [] i x is h = tt
turns_plain (n ∷ ns) i x is h =
    (refl, both_plain (map (with_number x n) is) _ (numbers_plain is x n h) (refl, turns_plain ns i x is h))

abbrev IsPutPlain : Option Put → Type 0
IsPutPlain None = Unit {0}
IsPutPlain (Some q) = ArePlain q.items

either_put : (b : Bool) (x y : Option Put) → IsPutPlain x → IsPutPlain y → IsPutPlain (cond b x y)
either_put true x y h k = h
either_put false x y h k = k

listed_plain : (s : State) (i : Item Terminal) (is : Items) (d : Declared) (o : Option ℕ) → IsPlain i → ArePlain is →
    IsPutPlain (listed_put s i is d o)
listed_plain s i is d None h j = tt
listed_plain s i is d (Some n) h j =
    (h, in_settings_plain (take 4 is) d (take n (drop 6 is)) (take_plain 4 is j) (take_plain n (drop 6 is) (drop_plain 6 is j)))

scalars_put_plain : (s : State) (i : Item Terminal) (d : Declared) → IsPlain i → IsPutPlain (scalars_put s i d)
scalars_put_plain s i d h =
    either_put (d.listed || nat_lt max_cells (s.used + d.len)) None _ tt (scalars_plain d.len i d.item s.used h)

declared_plain : (p : Pass) (s : State) (i : Item Terminal) (is : Items) (o : Option Declared) → IsPlain i → ArePlain is →
    IsPutPlain (declared_put p s i is o)
declared_plain Unroll s i is None h j = tt
declared_plain Replace s i is None h j = tt
declared_plain Unroll s i is (Some d) h j =
    let js : Items = take max_ahead is in
    either_put d.listed _ _ (listed_plain s i js d (list_len 0 (drop 6 js)) h (take_plain max_ahead is j)) (h, tt)
declared_plain Replace s i is (Some d) h j = scalars_put_plain s i d h

turns_put_plain : (s : State) (i : Item Terminal) (l : Loop) (is : Items) (ns : List ℕ) → ArePlain is →
    IsPutPlain (turns_put s i l is ns)
turns_put_plain s i l is ns h =
    either_put (is_unrolled s l.name is ns) _ None
    (refl, both_plain (turns i l.name is ns) _ (turns_plain ns i l.name is h) (refl, tt)) tt

body_plain : (s : State) (i : Item Terminal) (l : Loop) (is : Items) (o : Option ℕ) → ArePlain is →
    IsPutPlain (body_put s i l is o)
body_plain s i l is None h = tt
body_plain s i l is (Some n) h = turns_put_plain s i l (take n is) (numbers_of l) (take_plain n is h)

loop_plain : (s : State) (i : Item Terminal) (is : Items) (o : Option Loop) → ArePlain is → IsPutPlain (loop_put s i is o)
loop_plain s i is None h = tt
loop_plain s i is (Some l) h =
    let js : Items = drop (len l) is in
    body_plain s i l js (body_len 0 0 js) (drop_plain (len l) is h)

unrolled_plain : (s : State) (i : Item Terminal) (is : Items) → ArePlain is → IsPutPlain (unrolled_at s i is)
unrolled_plain s i is h =
    let js : Items = take max_ahead is in
    either_put (same (Fixed For) i.terminal && has_array s.blocks) _ None
    (loop_plain s i js (loop_in [] js) (take_plain max_ahead is h)) tt

indexed_plain : (s : State) (i : Item Terminal) (c : Cells) (o : Option Index) → IsPutPlain (indexed_put s i c o)
indexed_plain s i c None = tt
indexed_plain s i c (Some x) = either_put (nat_lt x.value c.len) _ None (refl, tt) tt

named_plain : (s : State) (i : Item Terminal) (is : Items) (o : Option Cells) → IsPutPlain (named_put s i is o)
named_plain s i is None = tt
named_plain s i [] (Some c) = tt
named_plain s i (o ∷ is) (Some c) =
    either_put (is_mark sign.OpenBracket o) _ None (indexed_plain s i c (index_in is)) tt

used_plain : (p : Pass) (s : State) (i : Item Terminal) (is : Items) → ArePlain is → IsPutPlain (used_put p s i is)
used_plain Unroll s i is h = unrolled_plain s i is h
used_plain Replace s i is h = named_plain s i (take max_index is) (array_of s.blocks i.terminal)

put_at_plain : (p : Pass) (s : State) (i : Item Terminal) (is : Items) → IsPlain i → ArePlain is → IsPutPlain (put_at p s i is)
put_at_plain p s i is h j =
    either_put (same (Fixed Uint64) i.terminal) _ _ (declared_plain p s i is (declared s.blocks (take 6 is)) h j)
    (used_plain p s i is j)

or_plain_plain : (s : State) (i : Item Terminal) (o : Option Put) → IsPlain i → IsPutPlain o → ArePlain (or_plain s i o).items
or_plain_plain s i None h q = (h, tt)
or_plain_plain s i (Some q) h k = k

-- ---- all tokens

abbrev GoBare : Onward → Onward → Type 0
GoBare go' go = (s : State) (k : ℕ) → IsBare (go' s k) (go s k)

scan_on_bare : (k : ℕ) (p : Pass) (s : State) (i : Item Terminal) (is : Items) (go go' : Onward) → IsPlain i → ArePlain is →
    GoBare go' go → IsBare (scan_on p s k i is go') (scan_on p s k i is go)
scan_on_bare zero p s i is go go' h j r =
    let q : Put = or_plain s i (put_at p s i is) in
    some q.items _ _ (or_plain_plain s i (put_at p s i is) h (put_at_plain p s i is h j)) (r q.state q.skip)
scan_on_bare (suc k) p s i is go go' h j r = r s k

-- a directive line stays one
twice_kept : (i : Item Terminal) (t : Terminal) → is_directive t ≡ true → is_directive (line_twice i t).terminal ≡ true
twice_kept i (Line ts) f = omp_stays i ts (twice (placed_of ts i.columns)) f
twice_kept i (Fixed w) f = absurd cc
twice_kept i (Mark s) f = absurd cc
twice_kept i (Name x) f = absurd cc
twice_kept i (Num n) f = absurd cc
twice_kept i Unknown f = absurd cc
twice_kept i Unworked f = absurd cc
twice_kept i End f = absurd cc

line_kept : (k : ℕ) (i : Item Terminal) → is_directive i.terminal ≡ true → is_directive (line_at k i).terminal ≡ true
line_kept zero i e = e
line_kept (suc k) i e = twice_kept i i.terminal e

scan_bare : (is : Items) (p : Pass) (s : State) (k : ℕ) → IsBare (scan p s k (bare is)) (scan p s k is)
scan_bare [] p s k = refl
scan_bare (i ∷ is) p s k = step (λ s k. scan_bare is p s k) (is_directive i.terminal) refl
  where
    step : GoBare (λ s k. scan p s k (bare is)) (λ s k. scan p s k is) → (t : Bool) → is_directive i.terminal ≡ t →
        IsBare (scan p s k (bare (i ∷ is))) (scan p s k (i ∷ is))
    step ih true e = rw e (rw (line_kept k i e) (ih s k))
    step ih false e =
        rw e (rw e (ap (λ (js : Items). scan_on p s k i js (λ s k. scan p s k (bare is))) (same_bare is)
        ∙ scan_on_bare k p s i (bare is) (λ s k. scan p s k is) (λ s k. scan p s k (bare is)) e (plain_bare is) ih))

unrolled_bare : (is : Items) → IsBare (unrolled (bare is)) (unrolled is)
unrolled_bare is =
    let on : Items → Items = scan Unroll begin 0 in
    ap (λ (js : Items). on (on js)) (scan_bare is Unroll begin 0) ∙ ap on (scan_bare (on is) Unroll begin 0)
    ∙ scan_bare (on (on is)) Unroll begin 0

pub scalars_bare : (is : Items) → IsBare (in_scalars (bare is)) (in_scalars is)
scalars_bare is = step (hides (bare (bare is))) (hides (bare is)) (ap hides (same_bare is))
  where
    step : (a b : Bool) → a ≡ b → IsBare (cond a (bare is) (scan Replace begin 0 (unrolled (bare is))))
        (cond b is (scan Replace begin 0 (unrolled is)))
    step true true h = refl
    step false false h = ap (scan Replace begin 0) (unrolled_bare is) ∙ scan_bare (unrolled is) Replace begin 0
    step true false h = absurd cc
    step false true h = absurd cc
