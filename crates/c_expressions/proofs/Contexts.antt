-- What a name means where a token stands.
use Rattle.std.proofs.Common.{◌≡◌, ℕ, ◌+◌, ◌<◌, ◌≤◌, Bool, true, false, cond, List, [], ◌∷◌, ◌++◌, length, map, reverse, take, get_or, Option, Some, None, refl, sym, ap, ◌∙◌, arith, take_all}
use Rattle.std.specs.Str.{bytes_eq}
use Rattle.std.specs.List.{flat_map}
use Rattle.std.specs.Option.{option_map}
use Rattle.std.proofs.lemmas.List.{reverse-append, take_more}
use Rattle.c_grammar.specs.Rules.{Sort, found, sort_in, sort_of}
use Rattle.c_expressions.specs.declared.scope.Frame.{Frame as GivenFrame}
use Rattle.c_expressions.specs.declared.scope.Meaning.{Meaning}
use Rattle.c_expressions.specs.declared.scope.Name.{Name}
use Rattle.c_expressions.specs.declared.scope.Scope.{Scope}
use Rattle.c_expressions.specs.Means.{Names, meaning_of}
use Rattle.c_expressions.specs.Scopes.{context_of, names_in, names_of, seen_frame, seen_name, sorted_name, sort_of_meaning}

-- the newest of some more
pub reverse_more : {A : Type 0} (xs : List A) (k : ℕ) (d : A) → k < length xs → d ≡ get_or xs k d →
    reverse (take (k + 1) xs) ≡ d ∷ reverse (take k xs)
reverse_more xs k d h e = ap reverse (take_more xs k d h ∙ ap (λ y. take k xs ++ y ∷ []) (sym e))
    ∙ reverse-append (take k xs) (d ∷ [])

-- ---- the names of one block

newest : (xs : List Name) (k : ℕ) (d : Name) → k < length xs →
    map seen_name (reverse (take (k + 1) xs)) ≡ seen_name (get_or xs k d) ∷ map seen_name (reverse (take k xs))
newest xs k d h = ap (λ (ns : List Name). map seen_name ns) (ap reverse (take_more xs k d h)
    ∙ reverse-append (take k xs) (get_or xs k d ∷ []))

pub newest_is : (xs ys : List Name) (k : ℕ) (d : Name) (x : List ℕ) → ys ≡ xs → k < length ys →
    bytes_eq (get_or ys k d).text.now x ≡ true → meaning_of (map seen_name (reverse (take (k + 1) xs))) x ≡
    Some (get_or ys k d).meaning
newest_is xs ys k d x e h b = ap (λ (zs : List Name). meaning_of (map seen_name (reverse (take (k + 1) zs))) x)
    (sym e) ∙ ap (λ (ns : Names). meaning_of ns x) (newest ys k d h) ∙ rw b refl

pub newest_not : (xs ys : List Name) (k : ℕ) (d : Name) (x : List ℕ) → ys ≡ xs → k < length ys →
    bytes_eq (get_or ys k d).text.now x ≡ false → meaning_of (map seen_name (reverse (take (k + 1) xs))) x ≡
    meaning_of (map seen_name (reverse (take k xs))) x
newest_not xs ys k d x e h b = ap (λ (zs : List Name). meaning_of (map seen_name (reverse (take (k + 1) zs))) x)
    (sym e) ∙ ap (λ (ns : Names). meaning_of ns x) (newest ys k d h)
    ∙ rw b (ap (λ (zs : List Name). meaning_of (map seen_name (reverse (take k zs))) x) e)

pub all_names : (xs ys : List Name) (k : ℕ) → ys ≡ xs → length ys ≤ k →
    map seen_name (reverse (take k xs)) ≡ map seen_name (reverse xs)
all_names xs ys k e h = ap (λ (zs : List Name). map seen_name (reverse zs))
    (take_all k xs (omega (arith, h, ap (λ (zs : List Name). length zs) e)))

-- ---- the names of all blocks

meaning_behind : (ns ms : Names) (x : List ℕ) (m : Meaning) → meaning_of ns x ≡ Some m →
    meaning_of (ns ++ ms) x ≡ Some m
meaning_behind [] ms x m e = absurd cc
meaning_behind (n ∷ ns) ms x m e = go (bytes_eq n.0 x) e (λ h. meaning_behind ns ms x m h)
  where
    go : (b : Bool) → cond b (Some n.1) (meaning_of ns x) ≡ Some m →
        (meaning_of ns x ≡ Some m → meaning_of (ns ++ ms) x ≡ Some m) →
        cond b (Some n.1) (meaning_of (ns ++ ms) x) ≡ Some m
    go true h more = h
    go false h more = more h

meaning_past : (ns ms : Names) (x : List ℕ) → meaning_of ns x ≡ None → meaning_of (ns ++ ms) x ≡ meaning_of ms x
meaning_past [] ms x e = refl
meaning_past (n ∷ ns) ms x e = go (bytes_eq n.0 x) e (λ h. meaning_past ns ms x h)
  where
    go : (b : Bool) → cond b (Some n.1) (meaning_of ns x) ≡ None →
        (meaning_of ns x ≡ None → meaning_of (ns ++ ms) x ≡ meaning_of ms x) →
        cond b (Some n.1) (meaning_of (ns ++ ms) x) ≡ meaning_of ms x
    go true h more = absurd cc
    go false h more = more h

abbrev pub names_until : List GivenFrame → ℕ → Names
names_until fs k = flat_map names_in (reverse (take k fs))

names_more : (fs : List GivenFrame) (k : ℕ) (f : GivenFrame) → k < length fs → f ≡ get_or fs k f →
    names_until fs (k + 1) ≡ names_in f ++ names_until fs k
names_more fs k f h e = ap (λ (gs : List GivenFrame). flat_map names_in gs) (reverse_more fs k f h e)

pub innermost_is : (fs : List GivenFrame) (k : ℕ) (f : GivenFrame) (x : List ℕ) (m : Meaning) → k < length fs →
    f ≡ get_or fs k f → Some m ≡ meaning_of (names_in f) x → meaning_of (names_until fs (k + 1)) x ≡ Some m
innermost_is fs k f x m h e g = ap (λ (ns : Names). meaning_of ns x) (names_more fs k f h e)
    ∙ meaning_behind (names_in f) (names_until fs k) x m (sym g)

pub innermost_not : (fs : List GivenFrame) (k : ℕ) (f : GivenFrame) (x : List ℕ) → k < length fs →
    f ≡ get_or fs k f → None ≡ meaning_of (names_in f) x →
    meaning_of (names_until fs (k + 1)) x ≡ meaning_of (names_until fs k) x
innermost_not fs k f x h e g = ap (λ (ns : Names). meaning_of ns x) (names_more fs k f h e)
    ∙ meaning_past (names_in f) (names_until fs k) x (sym g)

-- ---- what they are for the rules

sort_found : (ns : Names) (x : List ℕ) (rest : Option Sort) (o : Option Meaning) →
    option_map sort_of_meaning o ≡ rest → (ms : Names) → meaning_of ms x ≡ o →
    found x (map sorted_name ns) rest ≡ option_map sort_of_meaning (meaning_of (ns ++ ms) x)
sort_found [] x rest o e ms h = sym e ∙ ap (option_map sort_of_meaning) (sym h)
sort_found (n ∷ ns) x rest o e ms h = go (bytes_eq n.0 x) (sort_found ns x rest o e ms h)
  where
    go : (b : Bool) → found x (map sorted_name ns) rest ≡ option_map sort_of_meaning (meaning_of (ns ++ ms) x) →
        cond b (Some (sort_of_meaning n.1)) (found x (map sorted_name ns) rest) ≡
        option_map sort_of_meaning (cond b (Some n.1) (meaning_of (ns ++ ms) x))
    go true more = refl
    go false more = more

sort_frames : (fs : List GivenFrame) (x : List ℕ) → sort_in (map seen_frame fs) x ≡
    option_map sort_of_meaning (meaning_of (flat_map names_in fs) x)
sort_frames [] x = refl
sort_frames (f ∷ fs) x = sort_found (names_in f) x (sort_in (map seen_frame fs) x)
    (meaning_of (flat_map names_in fs) x) (sym (sort_frames fs x)) (flat_map names_in fs) refl

pub sort_is : (s : Scope) (d n : ℕ) (x : List ℕ) (o : Option Meaning) → o ≡ meaning_of (names_of s) x →
    option_map sort_of_meaning o ≡ sort_of (context_of s d n) x
unfolding sort_of
sort_is s d n x o e = ap (option_map sort_of_meaning) e ∙ sym (sort_frames (reverse s.frames.items) x)

pub all_sorts : (s : Scope) (fs : List GivenFrame) (k : ℕ) (x : List ℕ) (o : Option Meaning) →
    fs ≡ s.frames.items → length fs ≤ k → o ≡ meaning_of (names_until s.frames.items k) x → (d n : ℕ) →
    option_map sort_of_meaning o ≡ sort_of (context_of s d n) x
all_sorts s fs k x o e h g d n =
    let whole : take k s.frames.items ≡ s.frames.items =
    take_all k s.frames.items (omega (arith, h, ap (λ (gs : List GivenFrame). length gs) e)) in
    sort_is s d n x o (g ∙ ap (λ (gs : List GivenFrame). meaning_of (flat_map names_in (reverse gs)) x) whole)
