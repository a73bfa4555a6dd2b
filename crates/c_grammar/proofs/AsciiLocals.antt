-- Where local arrays are written as scalars, names stay ASCII.
use Rattle.std.proofs.Common.{ℕ, zero, suc, ◌+◌, ◌*◌, Bool, true, false, cond, List, [], ◌∷◌, ◌++◌, map, take, drop, Option, Some, None, refl}
use Rattle.std.specs.Prelude.{◌&&◌, ◌||◌, ◌==◌, nat_le, nat_lt}
use Rattle.std.specs.Str.{IsAscii}
use Rattle.c_tokens.specs.declared.kind.Sign.TheVariants as sign
use Rattle.c_grammar.specs.Lexeme.{Uint64, For}
use Rattle.c_grammar.specs.Terminal.{Terminal, Fixed, Mark, Name, Num, Line, Unknown, Unworked, End, same}
use Rattle.c_grammar.specs.Texts.{Item}
use Rattle.c_grammar.specs.Blocks.{Items, at, bare, is_directive}
use Rattle.c_grammar.specs.AsciiNames.{IsAsciiTerminal}
use Rattle.c_grammar.specs.Choices.{brackets_behind}
use Rattle.c_grammar.specs.Constants.{is_mark}
use Rattle.c_grammar.specs.Loops.{is_word}
use Rattle.c_grammar.specs.Triangles.{Loop, len, loop_in}
use Rattle.c_grammar.specs.Locals.{Cells, Declared, Index, Onward, Open, Pass, Put, Replace, State, Unroll, array_of, begin, body_len, body_put, cell_name, cell_names, declared, declared_as, declared_in, declared_put, has_array, hides, in_scalars, in_settings, index_in, indexed_put, is_inside, is_unrolled, line_at, line_twice, list_len, listed_put, loop_put, max_ahead, max_cells, max_index, named_put, next_setting, numbers_of, opens_list, or_plain, put, put_at, put_len, scalars, scalars_put, scan, scan_on, setting, settings, turns, turns_put, unrolled, unrolled_at, used_put, with_array, with_number}
use Rattle.c_grammar.proofs.AsciiTokens.{AreItemsText, bare_text, both_text, chosen_text as either_text}
use Rattle.c_grammar.proofs.AsciiCalls.{drop_text, take_text}
use Rattle.c_grammar.proofs.AsciiPassed.{all_low, drop_low, low_text, take_low}

-- ---- names of cells

cell_text : (k : ℕ) → IsAscii (cell_name k)
unfolding cell_names
cell_text k = low_text (cell_name k) (take_low 5 (drop (5 * k) cell_names) (drop_low (5 * k) cell_names (all_low cell_names refl)))

-- ---- declarations

abbrev IsDeclaredText : Option Declared → Type 0
IsDeclaredText None = Unit {0}
IsDeclaredText (Some d) = IsAscii d.name

as_text : (i : Item Terminal) (t u : Terminal) (listed : Bool) → IsAsciiTerminal t → IsDeclaredText (declared_as i t u listed)
as_text i (Name x) (Num (Some n)) listed h = go (nat_lt 0 n && nat_le n max_cells)
  where
    go : (b : Bool) → IsDeclaredText (cond b (Some (record { item = i; name = x; len = n; listed = listed })) None)
    go true = h
    go false = tt
as_text i (Name x) (Num None) listed h = tt
as_text i (Name x) (Fixed w) listed h = tt
as_text i (Name x) (Mark s) listed h = tt
as_text i (Name x) (Name y) listed h = tt
as_text i (Name x) (Line ts) listed h = tt
as_text i (Name x) Unknown listed h = tt
as_text i (Name x) Unworked listed h = tt
as_text i (Name x) End listed h = tt
as_text i (Fixed w) u listed h = tt
as_text i (Mark s) u listed h = tt
as_text i (Num n) u listed h = tt
as_text i (Line ts) u listed h = tt
as_text i Unknown u listed h = tt
as_text i Unworked u listed h = tt
as_text i End u listed h = tt

in_text : (is : Items) → AreItemsText is → IsDeclaredText (declared_in is)
in_text [] h = tt
in_text (x ∷ []) h = tt
in_text (x ∷ o ∷ []) h = tt
in_text (x ∷ o ∷ n ∷ []) h = tt
in_text (x ∷ o ∷ n ∷ c ∷ []) h = tt
in_text (x ∷ o ∷ n ∷ c ∷ e ∷ is) h =
    go (is_mark sign.OpenBracket o && is_mark sign.CloseBracket c && (is_mark sign.Semicolon e || opens_list e is))
  where
    go : (b : Bool) → IsDeclaredText (cond b (declared_as x x.terminal n.terminal (is_mark sign.Equal e)) None)
    go true = as_text x x.terminal n.terminal (is_mark sign.Equal e) h.0
    go false = tt

declared_text : (os : List Open) (is : Items) → AreItemsText is → IsDeclaredText (declared os is)
declared_text os is h = go (is_inside os)
  where
    go : (b : Bool) → IsDeclaredText (cond b (declared_in is) None)
    go true = in_text is h
    go false = tt

-- ---- what is put

scalars_text : (n : ℕ) (i x : Item Terminal) (k : ℕ) → IsAsciiTerminal i.terminal → AreItemsText (scalars i x k n)
scalars_text zero i x k h = tt
scalars_text (suc n) i x k h = (h, (cell_text k, (tt, (tt, (tt, scalars_text n i x (k + 1) h)))))

setting_text : (i : Item Terminal) (x : List ℕ) (c : ℕ) → IsAscii x → AreItemsText (setting i x c)
setting_text i x c h = (h, (tt, (tt, (tt, (tt, tt)))))

next_text : (i : Item Terminal) (x : List ℕ) (c : ℕ) (is : Items) → IsAscii x → AreItemsText (next_setting i x c is)
next_text i x c [] h = tt
next_text i x c (j ∷ is) h = (tt, setting_text i x c h)

settings_text : (is : Items) (x : List ℕ) (c b : ℕ) → IsAscii x → AreItemsText is → AreItemsText (settings x c b is)
settings_text [] x c b n h = tt
settings_text (i ∷ is) x c b n h =
    either_text ((b == 0) && is_mark sign.Comma i) _ _
    (both_text (next_setting i x (c + 1) is) _ (next_text i x (c + 1) is n) (settings_text is x (c + 1) b n h.1))
    (h.0, settings_text is x c (brackets_behind i b) n h.1)

in_settings_text : (front : Items) (d : Declared) (is : Items) → AreItemsText front → IsAscii d.name → AreItemsText is →
    AreItemsText (in_settings front d is)
in_settings_text front d is f n h =
    both_text front _ f (
      tt,
      both_text (setting d.item d.name 0) _ (setting_text d.item d.name 0 n)
          (both_text (settings d.name 0 0 is) _ (settings_text is d.name 0 0 n h) (tt, tt)),
    )

number_text : (x : List ℕ) (n : ℕ) (i : Item Terminal) → IsAsciiTerminal i.terminal →
    IsAsciiTerminal (with_number x n i).terminal
number_text x n i h = go (is_word x i)
  where
    go : (b : Bool) → IsAsciiTerminal (cond b (at i (Num (Some n))) i).terminal
    go true = tt
    go false = h

numbers_text : (is : Items) (x : List ℕ) (n : ℕ) → AreItemsText is → AreItemsText (map (with_number x n) is)
numbers_text [] x n h = tt
numbers_text (i ∷ is) x n h = (number_text x n i h.0, numbers_text is x n h.1)

turns_text : (ns : List ℕ) (i : Item Terminal) (x : List ℕ) (is : Items) → AreItemsText is → AreItemsText (turns i x is ns)
turns_text [] i x is h = tt
turns_text (n ∷ ns) i x is h =
    (tt, both_text (map (with_number x n) is) _ (numbers_text is x n h) (tt, turns_text ns i x is h))

abbrev IsPutText : Option Put → Type 0
IsPutText None = Unit {0}
IsPutText (Some q) = AreItemsText q.items

either_put : (b : Bool) (x y : Option Put) → IsPutText x → IsPutText y → IsPutText (cond b x y)
either_put true x y h k = h
either_put false x y h k = k

listed_text : (s : State) (i : Item Terminal) (is : Items) (d : Declared) (o : Option ℕ) → IsAsciiTerminal i.terminal →
    IsAscii d.name → AreItemsText is → IsPutText (listed_put s i is d o)
listed_text s i is d None h n j = tt
listed_text s i is d (Some m) h n j =
    (h, in_settings_text (take 4 is) d (take m (drop 6 is)) (take_text 4 is j) n (take_text m (drop 6 is) (drop_text 6 is j)))

scalars_put_text : (s : State) (i : Item Terminal) (d : Declared) → IsAsciiTerminal i.terminal → IsPutText (scalars_put s i d)
scalars_put_text s i d h =
    either_put (d.listed || nat_lt max_cells (s.used + d.len)) None _ tt (scalars_text d.len i d.item s.used h)

declared_put_text : (p : Pass) (s : State) (i : Item Terminal) (is : Items) (o : Option Declared) →
    IsAsciiTerminal i.terminal → AreItemsText is → IsDeclaredText o → IsPutText (declared_put p s i is o)
declared_put_text Unroll s i is None h j n = tt
declared_put_text Replace s i is None h j n = tt
declared_put_text Unroll s i is (Some d) h j n =
    let js : Items = take max_ahead is in
    either_put d.listed _ _ (listed_text s i js d (list_len 0 (drop 6 js)) h n (take_text max_ahead is j)) (h, tt)
declared_put_text Replace s i is (Some d) h j n = scalars_put_text s i d h

turns_put_text : (s : State) (i : Item Terminal) (l : Loop) (is : Items) (ns : List ℕ) → AreItemsText is →
    IsPutText (turns_put s i l is ns)
turns_put_text s i l is ns h =
    either_put (is_unrolled s l.name is ns) _ None
    (tt, both_text (turns i l.name is ns) _ (turns_text ns i l.name is h) (tt, tt)) tt

body_text : (s : State) (i : Item Terminal) (l : Loop) (is : Items) (o : Option ℕ) → AreItemsText is →
    IsPutText (body_put s i l is o)
body_text s i l is None h = tt
body_text s i l is (Some n) h = turns_put_text s i l (take n is) (numbers_of l) (take_text n is h)

loop_text : (s : State) (i : Item Terminal) (is : Items) (o : Option Loop) → AreItemsText is → IsPutText (loop_put s i is o)
loop_text s i is None h = tt
loop_text s i is (Some l) h =
    let js : Items = drop (len l) is in
    body_text s i l js (body_len 0 0 js) (drop_text (len l) is h)

unrolled_at_text : (s : State) (i : Item Terminal) (is : Items) → AreItemsText is → IsPutText (unrolled_at s i is)
unrolled_at_text s i is h =
    let js : Items = take max_ahead is in
    either_put (same (Fixed For) i.terminal && has_array s.blocks) _ None
    (loop_text s i js (loop_in [] js) (take_text max_ahead is h)) tt

indexed_text : (s : State) (i : Item Terminal) (c : Cells) (o : Option Index) → IsPutText (indexed_put s i c o)
indexed_text s i c None = tt
indexed_text s i c (Some x) = either_put (nat_lt x.value c.len) _ None (cell_text (c.first + x.value), tt) tt

named_text : (s : State) (i : Item Terminal) (is : Items) (o : Option Cells) → IsPutText (named_put s i is o)
named_text s i is None = tt
named_text s i [] (Some c) = tt
named_text s i (o ∷ is) (Some c) =
    either_put (is_mark sign.OpenBracket o) _ None (indexed_text s i c (index_in is)) tt

used_text : (p : Pass) (s : State) (i : Item Terminal) (is : Items) → AreItemsText is → IsPutText (used_put p s i is)
used_text Unroll s i is h = unrolled_at_text s i is h
used_text Replace s i is h = named_text s i (take max_index is) (array_of s.blocks i.terminal)

put_at_text : (p : Pass) (s : State) (i : Item Terminal) (is : Items) → IsAsciiTerminal i.terminal → AreItemsText is →
    IsPutText (put_at p s i is)
put_at_text p s i is h j =
    either_put (same (Fixed Uint64) i.terminal) _ _
    (declared_put_text p s i is (declared s.blocks (take 6 is)) h j (declared_text s.blocks (take 6 is) (take_text 6 is j)))
    (used_text p s i is j)

or_plain_text : (s : State) (i : Item Terminal) (o : Option Put) → IsAsciiTerminal i.terminal → IsPutText o →
    AreItemsText (or_plain s i o).items
or_plain_text s i None h q = (h, tt)
or_plain_text s i (Some q) h k = k

-- ---- all tokens

abbrev GoText : Onward → Type 0
GoText go = (s : State) (k : ℕ) → AreItemsText (go s k)

scan_on_text : (k : ℕ) (p : Pass) (s : State) (i : Item Terminal) (is : Items) (go : Onward) → IsAsciiTerminal i.terminal →
    AreItemsText is → GoText go → AreItemsText (scan_on p s k i is go)
scan_on_text zero p s i is go h j r =
    let q : Put = or_plain s i (put_at p s i is) in
    both_text q.items _ (or_plain_text s i (put_at p s i is) h (put_at_text p s i is h j)) (r q.state q.skip)
scan_on_text (suc k) p s i is go h j r = r s k

twice_text : (i : Item Terminal) (t : Terminal) → IsAsciiTerminal i.terminal → IsAsciiTerminal (line_twice i t).terminal
twice_text i (Line ts) h = tt
twice_text i (Fixed w) h = h
twice_text i (Mark s) h = h
twice_text i (Name x) h = h
twice_text i (Num n) h = h
twice_text i Unknown h = h
twice_text i Unworked h = h
twice_text i End h = h

line_text : (k : ℕ) (i : Item Terminal) → IsAsciiTerminal i.terminal → IsAsciiTerminal (line_at k i).terminal
line_text zero i h = h
line_text (suc k) i h = twice_text i i.terminal h

scan_text : (is : Items) (p : Pass) (s : State) (k : ℕ) → AreItemsText is → AreItemsText (scan p s k is)
scan_text [] p s k h = tt
scan_text (i ∷ is) p s k h =
    either_text (is_directive i.terminal) _ _ (line_text k i h.0, scan_text is p s k h.1)
    (scan_on_text k p s i (bare is) (λ s k. scan p s k is) h.0 (bare_text is h.1) (λ s k. scan_text is p s k h.1))

unrolled_text : (is : Items) → AreItemsText is → AreItemsText (unrolled is)
unrolled_text is h =
    let on : Items → Items = scan Unroll begin 0 in
    scan_text (on (on is)) Unroll begin 0 (scan_text (on is) Unroll begin 0 (scan_text is Unroll begin 0 h))

pub scalars_are_text : (is : Items) → AreItemsText is → AreItemsText (in_scalars is)
scalars_are_text is h =
    either_text (hides (bare is)) is _ h (scan_text (unrolled is) Replace begin 0 (unrolled_text is h))
