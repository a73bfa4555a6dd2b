-- Local arrays are written as scalars without a look at the lines of the tokens.
use Rattle.std.proofs.Common.{◌≡◌, ◌∙◌, ℕ, zero, suc, ◌+◌, ◌-◌, ◌*◌, Bool, true, false, cond, List, [], ◌∷◌, ◌++◌, length, map, take, drop, Option, Some, None, refl, sym, ap}
use Rattle.std.specs.Prelude.{◌&&◌, ◌||◌, ◌==◌, nat_le, nat_lt, is_some}
use Rattle.std.specs.Option.{option_map}
use Rattle.c_tokens.specs.declared.kind.Sign.TheVariants as sign
use Rattle.c_grammar.specs.Lexeme.{Uint64, For}
use Rattle.c_grammar.specs.Terminal.{Terminal, Fixed, Mark, Name, Num, Line, Unknown, Unworked, End, same}
use Rattle.c_grammar.specs.Texts.{Item}
use Rattle.c_grammar.specs.Blocks.{Items, at, bare, is_directive}
use Rattle.c_grammar.specs.Choices.{brackets_behind}
use Rattle.c_grammar.specs.Constants.{Names, depth_behind as braces_behind, is_mark, with_global}
use Rattle.c_grammar.specs.Loops.{is_word}
use Rattle.c_grammar.specs.Triangles.{Loop, len, loop_in}
use Rattle.c_grammar.specs.Locals.{Cells, Declared, Has, Index, Join, Last, Onward, Open, Pass, Put, Replace, State, Unroll, Wants, array_of, begin, body_len, body_put, cell_name, declared, declared_as, declared_in, declared_put, depth_behind, first_join, has_array, declares_array, hides, hides_in, in_scalars, in_settings, index_from, index_in, indexed_put, is_ended, is_indexed, is_inside, is_taken, is_unrolled, line_at, line_twice, list_len, listed_put, loop_put, max_ahead, max_cells, max_index, max_put, max_turns, named_put, next_at, next_setting, numbers_of, on_next, opens_list, or_plain, put, put_at, put_len, scalars, scalars_put, scan, scan_on, setting, settings, turns, turns_put, unrolled, unrolled_at, used_put, with_array, with_number, with_outer}
use Rattle.same_text.specs.Laws.{unlined}
use Rattle.same_text.proofs.Unlined.{AreUnlined, all_unlined, bare_unlined, either, one, some}
use Rattle.same_text.proofs.UnlinedPassed.{drop_unlined, length_unlined, take_unlined}
use Rattle.same_text.proofs.UnlinedTriangles.{in_same, len_same, loop_unlined}

-- ---- declarations

abbrev declared_unlined : Declared → Declared
declared_unlined d = record { item = unlined d.item; name = d.name; len = d.len; listed = d.listed }

as_same : (i : Item Terminal) (t u : Terminal) (listed : Bool) →
    declared_as (unlined i) t u listed ≡ option_map declared_unlined (declared_as i t u listed)
as_same i (Name x) (Num (Some n)) listed = go (nat_lt 0 n && nat_le n max_cells)
  where
    own : Declared
    own = record { item = i; name = x; len = n; listed = listed }

    go : (b : Bool) → cond b (Some (declared_unlined own)) None ≡ option_map declared_unlined (cond b (Some own) None)
    go true = refl
    go false = refl
as_same i (Name x) (Num None) listed = refl
as_same i (Name x) (Fixed w) listed = refl
as_same i (Name x) (Mark s) listed = refl
as_same i (Name x) (Name y) listed = refl
as_same i (Name x) (Line ts) listed = refl
as_same i (Name x) Unknown listed = refl
as_same i (Name x) Unworked listed = refl
as_same i (Name x) End listed = refl
as_same i (Fixed w) u listed = refl
as_same i (Mark s) u listed = refl
as_same i (Num n) u listed = refl
as_same i (Line ts) u listed = refl
as_same i Unknown u listed = refl
as_same i Unworked u listed = refl
as_same i End u listed = refl

opens_same : (e : Item Terminal) (is : Items) → opens_list (unlined e) (all_unlined is) ≡ opens_list e is
opens_same e [] = refl
opens_same e (b ∷ is) = refl

declared_in_same : (is : Items) → declared_in (all_unlined is) ≡ option_map declared_unlined (declared_in is)
declared_in_same [] = refl
declared_in_same (x ∷ []) = refl
declared_in_same (x ∷ o ∷ []) = refl
declared_in_same (x ∷ o ∷ n ∷ []) = refl
declared_in_same (x ∷ o ∷ n ∷ c ∷ []) = refl
declared_in_same (x ∷ o ∷ n ∷ c ∷ e ∷ is) =
    (λ k. cond (is_mark sign.OpenBracket o && is_mark sign.CloseBracket c && (is_mark sign.Semicolon e || opens_same e is k))
    (as_same x x.terminal n.terminal (is_mark sign.Equal e) k) None)
    ∙ go (is_mark sign.OpenBracket o && is_mark sign.CloseBracket c && (is_mark sign.Semicolon e || opens_list e is))
  where
    own : Option Declared
    own = declared_as x x.terminal n.terminal (is_mark sign.Equal e)

    go : (b : Bool) → cond b (option_map declared_unlined own) None ≡ option_map declared_unlined (cond b own None)
    go true = refl
    go false = refl

declared_same : (os : List Open) (is : Items) → declared os (all_unlined is) ≡ option_map declared_unlined (declared os is)
declared_same os is = ap (λ (o : Option Declared). cond (is_inside os) o None) (declared_in_same is) ∙ go (is_inside os)
  where
    go : (b : Bool) → cond b (option_map declared_unlined (declared_in is)) None
        ≡ option_map declared_unlined (cond b (declared_in is) None)
    go true = refl
    go false = refl

front_same : (os : List Open) (is : Items) →
    declared os (take 6 (all_unlined is)) ≡ option_map declared_unlined (declared os (take 6 is))
front_same os is = ap (declared os) (take_unlined 6 is) ∙ declared_same os (take 6 is)

-- ---- what is put

abbrev put_unlined : Put → Put
put_unlined q = put (all_unlined q.items) q.state q.skip

abbrev IsSamePut : Option Put → Option Put → Type 0
IsSamePut o' o = o' ≡ option_map put_unlined o

either_put : (b : Bool) (x y x' y' : Option Put) → IsSamePut x' x → IsSamePut y' y → IsSamePut (cond b x' y') (cond b x y)
either_put true x y x' y' h k = h
either_put false x y x' y' h k = k

put_is : (is is' : Items) (s : State) (k : ℕ) → AreUnlined is' is → IsSamePut (Some (put is' s k)) (Some (put is s k))
put_is is is' s k e = ap (λ (js : Items). Some (put js s k)) e

scalars_unlined : (n : ℕ) (i x : Item Terminal) (k : ℕ) → AreUnlined (scalars (unlined i) (unlined x) k n) (scalars i x k n)
scalars_unlined zero i x k = refl
scalars_unlined (suc n) i x k = λ j.
    unlined i ∷ unlined (at x (Name (cell_name k))) ∷ unlined (at x (Mark sign.Equal)) ∷ unlined (at x (Num (Some 0))) ∷
    unlined (at x (Mark sign.Semicolon)) ∷ scalars_unlined n i x (k + 1) j

next_unlined : (i : Item Terminal) (x : List ℕ) (c : ℕ) (is : Items) →
    AreUnlined (next_setting (unlined i) x c (all_unlined is)) (next_setting i x c is)
next_unlined i x c [] = refl
next_unlined i x c (j ∷ is) = refl

settings_unlined : (is : Items) (x : List ℕ) (c b : ℕ) → AreUnlined (settings x c b (all_unlined is)) (settings x c b is)
settings_unlined [] x c b = refl
settings_unlined (i ∷ is) x c b =
    let t : Bool = (b == 0) && is_mark sign.Comma i in
    either t t _ _ _ _ refl
    (some (next_setting i x (c + 1) is) _ (settings x (c + 1) b is) _ (next_unlined i x (c + 1) is)
    (settings_unlined is x (c + 1) b))
    (one i _ _ (settings_unlined is x c (brackets_behind i b)))

in_settings_unlined : (front : Items) (d : Declared) (is : Items) →
    AreUnlined (in_settings (all_unlined front) (declared_unlined d) (all_unlined is)) (in_settings front d is)
in_settings_unlined front d is =
    let close : Items = at d.item (Mark sign.Semicolon) ∷ [] in
    let values : Items = setting d.item d.name 0 ++ (settings d.name 0 0 is ++ close) in
    some front _ _ _ refl (one (at d.item (Mark sign.Semicolon)) values _ (some (setting d.item d.name 0) _ _ _ refl
    (some (settings d.name 0 0 is) _ close (all_unlined close) (settings_unlined is d.name 0 0) refl)))

number_unlined : (x : List ℕ) (n : ℕ) (i : Item Terminal) → with_number x n (unlined i) ≡ unlined (with_number x n i)
number_unlined x n i = go (is_word x i)
  where
    go : (b : Bool) → cond b (at (unlined i) (Num (Some n))) (unlined i) ≡ unlined (cond b (at i (Num (Some n))) i)
    go true = refl
    go false = refl

numbers_unlined : (is : Items) (x : List ℕ) (n : ℕ) →
    AreUnlined (map (with_number x n) (all_unlined is)) (map (with_number x n) is)
numbers_unlined [] x n = refl
numbers_unlined (i ∷ is) x n = λ k. number_unlined x n i k ∷ numbers_unlined is x n k

turns_unlined : (ns : List ℕ) (i : Item Terminal) (x : List ℕ) (is : Items) →
    AreUnlined (turns (unlined i) x (all_unlined is) ns) (turns i x is ns)
turns_unlined [] i x is = refl
turns_unlined (n ∷ ns) i x is =
    one (at i (Mark sign.OpenBrace)) _ _ (some (map (with_number x n) is) _ _ _ (numbers_unlined is x n)
    (one (at i (Mark sign.CloseBrace)) _ _ (turns_unlined ns i x is)))

-- ---- declarations that are written out

ended_same : (is : Items) → is_ended (all_unlined is) ≡ is_ended is
ended_same [] = refl
ended_same (i ∷ is) = refl

list_same : (is : Items) (n : ℕ) → list_len n (all_unlined is) ≡ list_len n is
list_same [] n = refl
list_same (i ∷ is) n = λ k.
    cond (is_mark sign.CloseBrace i) (cond (ended_same is k) (Some n) None)
    (cond (is_mark sign.OpenBrace i || is_mark sign.Semicolon i) None (list_same is (n + 1) k))

listed_same : (s : State) (i : Item Terminal) (is : Items) (d : Declared) (o : Option ℕ) →
    IsSamePut (listed_put s (unlined i) (all_unlined is) (declared_unlined d) o) (listed_put s i is d o)
listed_same s i is d None = refl
listed_same s i is d (Some n) =
    let list : Items = take n (drop 6 is) in
    put_is (i ∷ in_settings (take 4 is) d list) _ (record { blocks = with_array s.blocks d 0; used = s.used }) (n + 8)
    (one i _ _
    ((λ k. in_settings (take_unlined 4 is k) (declared_unlined d) (take n (drop_unlined 6 is k)))
    ∙ ap (in_settings (all_unlined (take 4 is)) (declared_unlined d)) (take_unlined n (drop 6 is))
    ∙ in_settings_unlined (take 4 is) d list))

scalars_put_same : (s : State) (i : Item Terminal) (d : Declared) →
    IsSamePut (scalars_put s (unlined i) (declared_unlined d)) (scalars_put s i d)
scalars_put_same s i d =
    either_put (d.listed || nat_lt max_cells (s.used + d.len)) None _ None _ refl
    (put_is (scalars i d.item s.used d.len) _ (record { blocks = with_array s.blocks d s.used; used = s.used + d.len }) 5
    (scalars_unlined d.len i d.item s.used))

all_listed : (s : State) (i : Item Terminal) (is : Items) (d : Declared) →
    IsSamePut (listed_put s (unlined i) (all_unlined is) (declared_unlined d) (list_len 0 (drop 6 (all_unlined is))))
    (listed_put s i is d (list_len 0 (drop 6 is)))
all_listed s i is d =
    ap (listed_put s (unlined i) (all_unlined is) (declared_unlined d))
    (ap (list_len 0) (drop_unlined 6 is) ∙ list_same (drop 6 is) 0)
    ∙ listed_same s i is d (list_len 0 (drop 6 is))

declared_put_same : (p : Pass) (s : State) (i : Item Terminal) (is : Items) (o : Option Declared) →
    IsSamePut (declared_put p s (unlined i) (all_unlined is) (option_map declared_unlined o)) (declared_put p s i is o)
declared_put_same Unroll s i is None = refl
declared_put_same Replace s i is None = refl
declared_put_same Unroll s i is (Some d) =
    let js : Items = take max_ahead is in
    either_put d.listed _ _ _ _
    (ap (λ (ks : Items). listed_put s (unlined i) ks (declared_unlined d) (list_len 0 (drop 6 ks))) (take_unlined max_ahead is)
    ∙ all_listed s i js d) refl
declared_put_same Replace s i is (Some d) = scalars_put_same s i d

-- ---- loops

body_len_same : (is : Items) (d n : ℕ) → body_len d n (all_unlined is) ≡ body_len d n is
body_len_same [] d n = refl
body_len_same (i ∷ is) d n = λ k.
    cond (is_mark sign.CloseBrace i) (cond (d == 0) (Some n) (body_len_same is (d - 1) (n + 1) k))
    (body_len_same is (cond (is_mark sign.OpenBrace i) (d + 1) d) (n + 1) k)

indexed_same : (is : Items) (os : List Open) (x : List ℕ) (named : Bool) (d : ℕ) →
    is_indexed os x named d (all_unlined is) ≡ is_indexed os x named d is
indexed_same [] os x named d = refl
indexed_same (i ∷ is) os x named zero =
    indexed_same is os x (is_some (array_of os i.terminal)) (cond (named && is_mark sign.OpenBracket i) 1 0)
indexed_same (i ∷ is) os x named (suc d) =
    ap (λ (b : Bool). is_word x i || b) (indexed_same is os x false (depth_behind i (suc d)))

turns_put_same : (s : State) (i : Item Terminal) (l : Loop) (is : Items) (ns : List ℕ) →
    IsSamePut (turns_put s (unlined i) (loop_unlined l) (all_unlined is) ns) (turns_put s i l is ns)
turns_put_same s i l is ns =
    (λ k. cond (nat_lt 0 (length ns) && nat_le (length ns) max_turns &&
    nat_le (s.used + length ns * (length_unlined is k + 2)) max_put && indexed_same is s.blocks l.name false 0 k)
    (Some (put all' (record { blocks = s.blocks; used = s.used + length ns * (length_unlined is k + 2) })
    (len_same l k + length_unlined is k + 1))) None)
    ∙ either_put (is_unrolled s l.name is ns) (Some (put all state skip)) None _ None
    (put_is all all' state skip
    (one (at i (Mark sign.OpenBrace)) _ _ (some (turns i l.name is ns) _ close (all_unlined close)
    (turns_unlined ns i l.name is) refl))) refl
  where
    close : Items
    close = at i (Mark sign.CloseBrace) ∷ []

    all : Items
    all = at i (Mark sign.OpenBrace) ∷ (turns i l.name is ns ++ close)

    all' : Items
    all' = at (unlined i) (Mark sign.OpenBrace) ∷ (turns (unlined i) l.name (all_unlined is) ns ++ all_unlined close)

    state : State
    state = record { blocks = s.blocks; used = s.used + put_len is ns }

    skip : ℕ
    skip = len l + length is + 1

body_same : (s : State) (i : Item Terminal) (l : Loop) (is : Items) (o : Option ℕ) →
    IsSamePut (body_put s (unlined i) (loop_unlined l) (all_unlined is) o) (body_put s i l is o)
body_same s i l is None = refl
body_same s i l is (Some n) =
    ap (λ (js : Items). turns_put s (unlined i) (loop_unlined l) js (numbers_of l)) (take_unlined n is)
    ∙ turns_put_same s i l (take n is) (numbers_of l)

loop_same : (s : State) (i : Item Terminal) (is : Items) (o : Option Loop) →
    IsSamePut (loop_put s (unlined i) (all_unlined is) (option_map loop_unlined o)) (loop_put s i is o)
loop_same s i is None = refl
loop_same s i is (Some l) =
    let js : Items = drop (len l) is in
    ap (λ (ks : Items). body_put s (unlined i) (loop_unlined l) ks (body_len 0 0 ks))
    (ap (λ (n : ℕ). drop n (all_unlined is)) (len_same l) ∙ drop_unlined (len l) is)
    ∙ ap (body_put s (unlined i) (loop_unlined l) (all_unlined js)) (body_len_same js 0 0)
    ∙ body_same s i l js (body_len 0 0 js)

unrolled_same : (s : State) (i : Item Terminal) (is : Items) →
    IsSamePut (unrolled_at s (unlined i) (all_unlined is)) (unrolled_at s i is)
unrolled_same s i is =
    let js : Items = take max_ahead is in
    either_put (same (Fixed For) i.terminal && has_array s.blocks) _ None _ None
    (ap (λ (ks : Items). loop_put s (unlined i) ks (loop_in [] ks)) (take_unlined max_ahead is)
    ∙ ap (loop_put s (unlined i) (all_unlined js)) (in_same [] js) ∙ loop_same s i js (loop_in [] js)) refl

-- ---- subscripts

index_from_same : (is : Items) (l : Last) (js : List Join) (k : ℕ) →
    index_from l js k (all_unlined is) ≡ index_from l js k is
index_from_same [] l js k = refl
index_from_same (i ∷ is) (Wants j) js k = λ t.
    on_next k (next_at (Wants j) js i) (λ l js. index_from_same is l js (k + 1) t)
index_from_same (i ∷ is) (Has a) js k = λ t.
    on_next k (next_at (Has a) js i) (λ l js. index_from_same is l js (k + 1) t)

index_same : (is : Items) → index_in (all_unlined is) ≡ index_in is
index_same is = index_from_same is (Wants first_join) [] 0

indexed_put_same : (s : State) (i : Item Terminal) (c : Cells) (o : Option Index) →
    IsSamePut (indexed_put s (unlined i) c o) (indexed_put s i c o)
indexed_put_same s i c None = refl
indexed_put_same s i c (Some x) = either_put (nat_lt x.value c.len) _ None _ None refl refl

named_same : (s : State) (i : Item Terminal) (is : Items) (o : Option Cells) →
    IsSamePut (named_put s (unlined i) (all_unlined is) o) (named_put s i is o)
named_same s i is None = refl
named_same s i [] (Some c) = refl
named_same s i (o ∷ is) (Some c) =
    either_put (is_mark sign.OpenBracket o) _ None _ None
    (ap (indexed_put s (unlined i) c) (index_same is) ∙ indexed_put_same s i c (index_in is)) refl

used_same : (p : Pass) (s : State) (i : Item Terminal) (is : Items) →
    IsSamePut (used_put p s (unlined i) (all_unlined is)) (used_put p s i is)
used_same Unroll s i is = unrolled_same s i is
used_same Replace s i is =
    ap (λ (js : Items). named_put s (unlined i) js (array_of s.blocks i.terminal)) (take_unlined max_index is)
    ∙ named_same s i (take max_index is) (array_of s.blocks i.terminal)

-- ---- all tokens

put_at_same : (p : Pass) (s : State) (i : Item Terminal) (is : Items) →
    IsSamePut (put_at p s (unlined i) (all_unlined is)) (put_at p s i is)
put_at_same p s i is =
    either_put (same (Fixed Uint64) i.terminal) _ _ _ _
    (ap (declared_put p s (unlined i) (all_unlined is)) (front_same s.blocks is)
    ∙ declared_put_same p s i is (declared s.blocks (take 6 is)))
    (used_same p s i is)

or_plain_same : (s : State) (i : Item Terminal) (o : Option Put) →
    or_plain s (unlined i) (option_map put_unlined o) ≡ put_unlined (or_plain s i o)
or_plain_same s i None = refl
or_plain_same s i (Some q) = refl

abbrev GoesSame : Onward → Onward → Type 0
GoesSame go' go = (s : State) (k : ℕ) → AreUnlined (go' s k) (go s k)

scan_on_unlined : (k : ℕ) (p : Pass) (s : State) (i : Item Terminal) (is : Items) (go go' : Onward) → GoesSame go' go →
    AreUnlined (scan_on p s k (unlined i) (all_unlined is) go') (scan_on p s k i is go)
scan_on_unlined zero p s i is go go' r =
    let q : Put = or_plain s i (put_at p s i is) in
    ap (λ (q : Put). q.items ++ go' q.state q.skip)
    (ap (or_plain s (unlined i)) (put_at_same p s i is) ∙ or_plain_same s i (put_at p s i is))
    ∙ some q.items (all_unlined q.items) (go q.state q.skip) _ refl (r q.state q.skip)
scan_on_unlined (suc k) p s i is go go' r = r s k

twice_unlined : (i : Item Terminal) (t : Terminal) → line_twice (unlined i) t ≡ unlined (line_twice i t)
twice_unlined i (Line ts) = refl
twice_unlined i (Fixed w) = refl
twice_unlined i (Mark s) = refl
twice_unlined i (Name x) = refl
twice_unlined i (Num n) = refl
twice_unlined i Unknown = refl
twice_unlined i Unworked = refl
twice_unlined i End = refl

line_unlined : (k : ℕ) (i : Item Terminal) → line_at k (unlined i) ≡ unlined (line_at k i)
line_unlined zero i = refl
line_unlined (suc k) i = twice_unlined i i.terminal

scan_unlined : (is : Items) (p : Pass) (s : State) (k : ℕ) → AreUnlined (scan p s k (all_unlined is)) (scan p s k is)
scan_unlined [] p s k = refl
scan_unlined (i ∷ is) p s k = step (is_directive i.terminal) (λ s k. scan_unlined is p s k)
  where
    step : (t : Bool) → GoesSame (λ s k. scan p s k (all_unlined is)) (λ s k. scan p s k is) →
        AreUnlined
        (cond t (line_at k (unlined i) ∷ scan p s k (all_unlined is))
        (scan_on p s k (unlined i) (bare (all_unlined is)) (λ s k. scan p s k (all_unlined is))))
        (cond t (line_at k i ∷ scan p s k is) (scan_on p s k i (bare is) (λ s k. scan p s k is)))
    step true ih =
        ap (λ (j : Item Terminal). j ∷ scan p s k (all_unlined is)) (line_unlined k i)
        ∙ one (line_at k i) (scan p s k is) (scan p s k (all_unlined is)) (ih s k)
    step false ih =
        ap (λ (js : Items). scan_on p s k (unlined i) js (λ s k. scan p s k (all_unlined is))) (bare_unlined is)
        ∙ scan_on_unlined k p s i (bare is) (λ s k. scan p s k is) (λ s k. scan p s k (all_unlined is)) ih

unrolled_unlined : (is : Items) → AreUnlined (unrolled (all_unlined is)) (unrolled is)
unrolled_unlined is =
    let on : Items → Items = scan Unroll begin 0 in
    ap (λ (js : Items). on (on js)) (scan_unlined is Unroll begin 0) ∙ ap on (scan_unlined (on is) Unroll begin 0)
    ∙ scan_unlined (on (on is)) Unroll begin 0

-- ---- names of globals

array_same : (d : ℕ) (i : Item Terminal) (is : Items) → declares_array d (unlined i) (all_unlined is) ≡ declares_array d i is
array_same d i [] = refl
array_same d i (x ∷ []) = refl
array_same d i (x ∷ b ∷ is) = refl

taken_same : (names : Names) (is : Items) → is_taken names (all_unlined is) ≡ is_taken names is
taken_same names [] = refl
taken_same names (x ∷ is) = refl

global_same : (t : Terminal) (is : Items) (names : Names) → with_global t (all_unlined is) names ≡ with_global t is names
global_same t [] names = refl
global_same t (x ∷ is) names = refl

hides_same : (is : Items) (left : ℕ) (names : Names) (d : ℕ) → hides_in left names d (all_unlined is) ≡ hides_in left names d is
hides_same [] left names d = refl
hides_same (i ∷ is) left names d =
    λ k. cond (array_same d i is k)
    (cond (left == 0) false (taken_same names is k || hides_same is (left - 1) names (braces_behind i.terminal d) k))
    (rest (hides_same is left (with_outer d i is names) (braces_behind i.terminal d)) k)
  where
    outer : with_outer d (unlined i) (all_unlined is) names ≡ with_outer d i is names
    outer = λ k. cond (d == 0) (global_same i.terminal is names k) names

    rest : hides_in left (with_outer d i is names) (braces_behind i.terminal d) (all_unlined is)
        ≡ hides_in left (with_outer d i is names) (braces_behind i.terminal d) is →
        hides_in left (with_outer d (unlined i) (all_unlined is) names) (braces_behind i.terminal d) (all_unlined is)
        ≡ hides_in left (with_outer d i is names) (braces_behind i.terminal d) is
    rest ih = ap (λ (ns : Names). hides_in left ns (braces_behind i.terminal d) (all_unlined is)) outer ∙ ih

pub scalars_unlined_all : (is : Items) → AreUnlined (in_scalars (all_unlined is)) (in_scalars is)
scalars_unlined_all is = step (hides (bare (all_unlined is))) (hides (bare is))
    (ap hides (bare_unlined is) ∙ hides_same (bare is) max_cells [] 0)
  where
    step : (a b : Bool) → a ≡ b → AreUnlined (cond a (all_unlined is) (scan Replace begin 0 (unrolled (all_unlined is))))
        (cond b is (scan Replace begin 0 (unrolled is)))
    step true true h = refl
    step false false h = ap (scan Replace begin 0) (unrolled_unlined is) ∙ scan_unlined (unrolled is) Replace begin 0
    step true false h = absurd cc
    step false true h = absurd cc
