-- How many of some names are those of loops.
use Rattle.std.proofs.Common.{◌≡◌, ℕ, ◌+◌, ◌<◌, ◌≤◌, List, [], ◌∷◌, ◌++◌, length, map, take, drop, reverse, get_or, refl, sym, ap, ◌∙◌, arith, append_assoc}
use Rattle.std.specs.List.{flat_map}
use Rattle.std.proofs.lemmas.List.{take-append-drop, reverse-append, get_or_default, map-append}
use Rattle.c_expressions.specs.declared.scope.Frame.{Frame}
use Rattle.c_expressions.specs.declared.scope.Meaning.{Meaning}
use Rattle.c_expressions.specs.declared.scope.Meaning.TheVariants as meaning
use Rattle.c_expressions.specs.declared.scope.Name.{Name}
use Rattle.c_expressions.specs.Means.{Names}
use Rattle.c_expressions.specs.Scopes.{names_in, seen_name}
use Rattle.c_expressions.proofs.Contexts.{reverse_more, names_until}
use Rattle.c_statements.specs.Simple.{loops_in}

pub loops_append : (a b : Names) → loops_in (a ++ b) ≡ loops_in a + loops_in b
loops_append [] b = omega arith
loops_append ((x, meaning.Loop n) ∷ a) b = omega (arith, loops_append a b)
loops_append ((x, meaning.Array n) ∷ a) b = loops_append a b
loops_append ((x, meaning.Scalar n i) ∷ a) b = loops_append a b
loops_append ((x, meaning.Boxed n i) ∷ a) b = loops_append a b

-- ---- in a block

abbrev pub loops_until : List Name → ℕ → ℕ
loops_until xs k = loops_in (map seen_name (reverse (take k xs)))

newest_first : (xs : List Name) (k : ℕ) (d : Name) → k < length xs → d ≡ get_or xs k d →
    loops_until xs (k + 1) ≡ loops_in (seen_name d ∷ map seen_name (reverse (take k xs)))
newest_first xs k d h e = ap (λ (ns : List Name). loops_in (map seen_name ns)) (reverse_more xs k d h e)

is_one : (x : List ℕ) (m : Meaning) (n : ℕ) (ns : Names) → m ≡ meaning.Loop n → loops_in ((x, m) ∷ ns) ≡ loops_in ns + 1
is_one x m n ns e = ap (λ (u : Meaning). loops_in ((x, u) ∷ ns)) e

abbrev pub NoLoop : Meaning → Type 0
NoLoop (meaning.Loop n) = ⊥
NoLoop _ = Unit {0}

is_none : (x : List ℕ) (m : Meaning) (ns : Names) → NoLoop m → loops_in ((x, m) ∷ ns) ≡ loops_in ns
is_none x (meaning.Loop n) ns h = absurd h
is_none x (meaning.Array a) ns h = refl
is_none x (meaning.Scalar n i) ns h = refl
is_none x (meaning.Boxed a n) ns h = refl

pub loop_here : (xs : List Name) (k n : ℕ) (d : Name) → k < length xs → d ≡ get_or xs k d → d.meaning ≡ meaning.Loop n →
    loops_until xs (k + 1) ≡ loops_until xs k + 1
loop_here xs k n d h e f = newest_first xs k d h e ∙ is_one d.text.now d.meaning n
    (map seen_name (reverse (take k xs))) f

pub other_here : (xs : List Name) (k : ℕ) (d : Name) → k < length xs → d ≡ get_or xs k d → NoLoop d.meaning →
    loops_until xs (k + 1) ≡ loops_until xs k
other_here xs k d h e f = newest_first xs k d h e ∙ is_none d.text.now d.meaning (map seen_name (reverse (take k xs))) f

pub loops_least : (xs : List Name) (k : ℕ) → loops_until xs k ≤ loops_in (map seen_name (reverse xs))
loops_least xs k =
    let back = reverse (take k xs) in
    let front = reverse (drop k xs) in
    let whole : loops_in (map seen_name (reverse xs)) ≡ loops_in (map seen_name front) + loops_in (map seen_name back) =
    ap (λ (ns : List Name). loops_in (map seen_name (reverse ns))) (sym (take-append-drop k xs))
    ∙ ap (λ (ns : List Name). loops_in (map seen_name ns)) (reverse-append (take k xs) (drop k xs))
    ∙ ap loops_in (map-append seen_name front back) ∙ loops_append (map seen_name front) (map seen_name back) in
    omega (arith, whole)

pub loop_fits : (xs ys : List Name) (k n count before high : ℕ) (d : Name) → ys ≡ xs → k < length ys →
    (get_or ys k d).meaning ≡ meaning.Loop n → count ≡ before + loops_until xs k →
    before + loops_in (map seen_name (reverse xs)) ≤ high → count + 1 ≤ high
loop_fits xs ys k n count before high d e h f g b =
    let here : k < length xs = omega (arith, h, ap (λ (ns : List Name). length ns) e) in
    let same : get_or ys k d ≡ get_or xs k (get_or ys k d) =
    ap (λ (ns : List Name). get_or ns k d) e ∙ get_or_default xs k d (get_or ys k d) here in
    let more = loop_here xs k n (get_or ys k d) here same f in
    omega (arith, more, loops_least xs (k + 1))

-- ---- in all blocks

pub loops_more : (fs : List Frame) (k : ℕ) (f : Frame) → k < length fs → f ≡ get_or fs k f →
    loops_in (names_until fs (k + 1)) ≡ loops_in (names_until fs k) + loops_in (names_in f)
loops_more fs k f h e =
    let both = loops_append (names_in f) (names_until fs k) in
    ap (λ (gs : List Frame). loops_in (flat_map names_in gs)) (reverse_more fs k f h e) ∙ omega (arith, both)

flat_append : (a b : List Frame) → flat_map names_in (a ++ b) ≡ flat_map names_in a ++ flat_map names_in b
flat_append [] b = refl
flat_append (f ∷ a) b = ap (λ (ns : Names). names_in f ++ ns) (flat_append a b)
    ∙ sym (append_assoc (names_in f) (flat_map names_in a) (flat_map names_in b))

pub loops_below : (fs : List Frame) (k : ℕ) → loops_in (names_until fs k) ≤ loops_in (flat_map names_in (reverse fs))
loops_below fs k =
    let back = reverse (take k fs) in
    let front = reverse (drop k fs) in
    let whole : loops_in (flat_map names_in (reverse fs)) ≡ loops_in (flat_map names_in front) + loops_in
    (flat_map names_in back) =
    ap (λ (gs : List Frame). loops_in (flat_map names_in (reverse gs))) (sym (take-append-drop k fs))
    ∙ ap (λ (gs : List Frame). loops_in (flat_map names_in gs)) (reverse-append (take k fs) (drop k fs))
    ∙ ap loops_in (flat_append front back) ∙ loops_append (flat_map names_in front) (flat_map names_in back) in
    omega (arith, whole)

pub frame_more : (fs gs : List Frame) (k count next : ℕ) (f : Frame) → gs ≡ fs → k < length gs → f ≡ get_or gs k f →
    count ≡ loops_in (names_until fs k) → next ≡ count + loops_in (names_in f) →
    next ≡ loops_in (names_until fs (k + 1))
frame_more fs gs k count next f e h d g n =
    let more = loops_more fs k f (omega (arith, h, ap (λ (xs : List Frame). length xs) e))
    (d ∙ ap (λ (xs : List Frame). get_or xs k f) e) in
    omega (arith, more)

pub frame_fits : (fs gs : List Frame) (k count high : ℕ) (f : Frame) → gs ≡ fs → k < length gs → f ≡ get_or gs k f →
    count ≡ loops_in (names_until fs k) → loops_in (flat_map names_in (reverse fs)) ≤ high →
    count + loops_in (names_in f) ≤ high
frame_fits fs gs k count high f e h d g b =
    let next = frame_more fs gs k count (count + loops_in (names_in f)) f e h d g refl in
    omega (arith, next, loops_below fs (k + 1))
