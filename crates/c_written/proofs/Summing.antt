-- Names in a region, one token after another.
use Rattle.std.proofs.Common.{◌≡◌, ◌∙◌, ℕ, zero, suc, ◌+◌, ◌-◌, ◌<◌, ◌≤◌, ◌^◌, Bool, true, false, cond, List, [], ◌∷◌, length, get_or, take, drop, Option, Some, None, refl, ap, sym, arith}
use Rattle.std.specs.Prelude.{◌&&◌, ◌==◌, if◌then◌else◌}
use Rattle.std.proofs.lemmas.List.{length-drop, length-map, length-take}
use Rattle.c_tokens.specs.declared.kind.Sign.{Sign}
use Rattle.c_tokens.specs.declared.kind.Sign.TheVariants as sign
use Rattle.c_grammar.specs.Terminal.{Terminal, Name, same}
use Rattle.c_grammar.specs.Texts.{Item}
use Rattle.c_grammar.specs.Blocks.{Items, bare, is_directive}
use Rattle.c_grammar.specs.Changes.{is_boundary, is_mark}
use Rattle.c_grammar.specs.Presence.{goes_on, opens_part}
use Rattle.c_grammar.specs.Updates.{Onward, again_at, allowed_at, is_by, is_gathered, is_summed, mention, other, place_len, update}
use Rattle.c_terminals.specs.declared.token.Token.{Token}
use Rattle.c_written.specs.Regions.{mentioned, place_behind}
use Rattle.c_terminals.specs.Seen.{seen, seen_all}
use Rattle.c_written.proofs.CallWalk.{begins_with, behind}
use Rattle.c_written.proofs.Targeting.{few_bare}

pub few_tokens : (ts : List Token) (js : Items) → length ts < 2 ^ 63 → js ≡ bare (seen_all ts) → length js < 2 ^ 63
few_tokens ts js h e =
    let most = few_bare (seen_all ts) in
    let same = ap (λ (ks : Items). length ks) e in
    omega (arith, h, most, same, length-map ts seen)

pub few_behind : (ts : List Token) → 1 ≤ length ts → length (behind ts) + 1 ≤ length ts
few_behind ts h = omega (arith, h, length-take (length ts - 1) (drop 1 ts))

-- ---- a mention

abbrev mentions : Option ℕ → (ℕ → Bool) → Bool
mentions None go = false
mentions (Some n) go = go n

chosen : (b : Bool) (n : ℕ) (go : ℕ → Bool) → (b && go n) ≡ mentions (if b then Some n else None) go
chosen true n go = refl
chosen false n go = refl

mention_is : (x : List ℕ) (op : Sign) (d : ℕ) (s : Bool) (n : ℕ) (is : Items) (go : Onward) →
    mention x op d s n is go ≡ mentions (mentioned x op s n is) (λ k. go d false k)
mention_is x op d s zero is go =
    chosen (s && is_by op (update x is)) (again_at (place_len is) is) (λ k. go d false k)
mention_is x op d s (suc zero) is go = refl
mention_is x op d s (suc (suc n)) is go =
    chosen (s && is_by op (update x is)) (again_at (place_len is) is) (λ k. go d false k)

summed_name : (x : List ℕ) (op : Sign) (d : ℕ) (s : Bool) (n : ℕ) (ts : List Token) (t : Token) (o : Option ℕ) → 1 ≤ length ts →
    t ≡ get_or ts 0 t → is_directive (seen t).terminal ≡ false → same (Name x) (seen t).terminal ≡ true →
    o ≡ mentioned x op s n (bare (seen_all (behind ts))) →
    is_summed x op d s n (seen_all ts) ≡ mentions o (λ k. is_summed x op d false k (seen_all (behind ts)))
summed_name x op d s n ts t o h e f g m =
    ap (is_summed x op d s n) (begins_with ts t h e)
    ∙ rw (f, g) (mention_is x op d s n (bare (seen_all (behind ts))) (λ d s n. is_summed x op d s n (seen_all (behind ts))))
    ∙ ap (λ (p : Option ℕ). mentions p (λ k. is_summed x op d false k (seen_all (behind ts)))) (sym m)

pub name_stays : (x : List ℕ) (op : Sign) (d : ℕ) (s : Bool) (n : ℕ) (ts : List Token) (t : Token) (k : ℕ) → 1 ≤ length ts →
    t ≡ get_or ts 0 t → is_directive (seen t).terminal ≡ false → same (Name x) (seen t).terminal ≡ true →
    Some k ≡ mentioned x op s n (bare (seen_all (behind ts))) →
    is_summed x op d false k (seen_all (behind ts)) ≡ is_summed x op d s n (seen_all ts)
name_stays x op d s n ts t k h e f g m = sym (summed_name x op d s n ts t (Some k) h e f g m)

pub name_stops : (x : List ℕ) (op : Sign) (d : ℕ) (s : Bool) (n : ℕ) (ts : List Token) (t : Token) → 1 ≤ length ts →
    t ≡ get_or ts 0 t → is_directive (seen t).terminal ≡ false → same (Name x) (seen t).terminal ≡ true →
    None ≡ mentioned x op s n (bare (seen_all (behind ts))) →
    false ≡ is_summed x op d s n (seen_all ts)
name_stops x op d s n ts t h e f g m = sym (summed_name x op d s n ts t None h e f g m)

-- ---- another token

abbrev places : Option (ℕ × Bool) → (ℕ → Bool → Bool) → Bool
places None go = true
places (Some p) go = go p.0 p.1

closed : (b : Bool) (d : ℕ) (go : ℕ → Bool → Bool) →
    (if b then go (d - 1) true else true) ≡ places (if b then Some (d - 1, true) else None) go
closed true d go = refl
closed false d go = refl

over : (b s : Bool) (d : ℕ) (go : ℕ → Bool → Bool) →
    (if b then true else go d s) ≡ places (if b then None else Some (d, s)) go
over true s d go = refl
over false s d go = refl

other_is : (d n : ℕ) (i : Item Terminal) (is : Items) (go : Onward) →
    other d n i is go ≡ places (place_behind d i is) (λ d s. go d s (n - 1))
other_is d n i is go =
    by (opens_part i) (is_mark sign.CloseBrace i) (is_mark sign.CloseParen i) (is_mark sign.Semicolon i && (d == 0))
  where
    by : (a b c e : Bool) →
        (if a then go (d + 1) (is_boundary i.terminal) (n - 1)
        else (if b then (if goes_on d is then go (d - 1) true (n - 1) else true)
        else (if c then go (d - 1) false (n - 1) else (if e then true else go d (is_boundary i.terminal) (n - 1)))))
        ≡ places (if a then Some (d + 1, is_boundary i.terminal)
        else (if b then (if goes_on d is then Some (d - 1, true) else None)
        else (if c then Some (d - 1, false) else (if e then None else Some (d, is_boundary i.terminal)))))
        (λ d s. go d s (n - 1))
    by true b c e = refl
    by false true c e = closed (goes_on d is) d (λ d s. go d s (n - 1))
    by false false true e = refl
    by false false false e = over e (is_boundary i.terminal) d (λ d s. go d s (n - 1))

summed_other : (x : List ℕ) (op : Sign) (d : ℕ) (s : Bool) (n m : ℕ) (ts : List Token) (t : Token) (o : Option (ℕ × Bool)) →
    1 ≤ length ts → t ≡ get_or ts 0 t → is_directive (seen t).terminal ≡ false → same (Name x) (seen t).terminal ≡ false →
    m ≡ n - 1 → o ≡ place_behind d (seen t) (seen_all (behind ts)) →
    is_summed x op d s n (seen_all ts) ≡ places o (λ d s. is_summed x op d s m (seen_all (behind ts)))
summed_other x op d s n m ts t o h e f g l p =
    ap (is_summed x op d s n) (begins_with ts t h e)
    ∙ rw (f, g) (other_is d n (seen t) (seen_all (behind ts)) (λ d s n. is_summed x op d s n (seen_all (behind ts))))
    ∙ ap (λ (q : Option (ℕ × Bool)). places q (λ d s. is_summed x op d s (n - 1) (seen_all (behind ts)))) (sym p)
    ∙ ap (λ (k : ℕ). places o (λ d s. is_summed x op d s k (seen_all (behind ts)))) (sym l)

pub token_stays : (x : List ℕ) (op : Sign) (d : ℕ) (s : Bool) (n m d' : ℕ) (s' : Bool) (ts : List Token) (t : Token) →
    1 ≤ length ts → t ≡ get_or ts 0 t → is_directive (seen t).terminal ≡ false → same (Name x) (seen t).terminal ≡ false →
    m ≡ n - 1 → Some (d', s') ≡ place_behind d (seen t) (seen_all (behind ts)) →
    is_summed x op d' s' m (seen_all (behind ts)) ≡ is_summed x op d s n (seen_all ts)
token_stays x op d s n m d' s' ts t h e f g l p = sym (summed_other x op d s n m ts t (Some (d', s')) h e f g l p)

-- ---- names in ifs that store the greater or the lesser of two numbers

pub gathered_name : (x : List ℕ) (g : Bool) (d : ℕ) (s : Bool) (n m : ℕ) (ts : List Token) (t : Token) → 1 ≤ length ts →
    t ≡ get_or ts 0 t → is_directive (seen t).terminal ≡ false → same (Name x) (seen t).terminal ≡ true → 0 < n →
    m ≡ n - 1 → is_gathered x g d false m (seen_all (behind ts)) ≡ is_gathered x g d s n (seen_all ts)
gathered_name x g d s zero m ts t h e f k z l = absurd (omega (arith, z))
gathered_name x g d s (suc n) m ts t h e f k z l =
    let less : m ≡ n = l ∙ omega arith in
    ap (λ (j : ℕ). is_gathered x g d false j (seen_all (behind ts))) less
    ∙ sym (ap (is_gathered x g d s (suc n)) (begins_with ts t h e) ∙ rw (f, k) refl)

pub gathered_none : (x : List ℕ) (g : Bool) (d : ℕ) (s : Bool) (n : ℕ) (ts : List Token) (t : Token) → 1 ≤ length ts →
    t ≡ get_or ts 0 t → is_directive (seen t).terminal ≡ false → same (Name x) (seen t).terminal ≡ true → n ≡ 0 →
    false ≡ is_gathered x g d s n (seen_all ts)
gathered_none x g d s n ts t h e f k z =
    sym (ap (λ (j : ℕ). is_gathered x g d s j (seen_all ts)) z ∙ ap (is_gathered x g d s 0) (begins_with ts t h e)
    ∙ rw (f, k) refl)

gathered_other : (x : List ℕ) (g : Bool) (d : ℕ) (s : Bool) (n m : ℕ) (ts : List Token) (t : Token) (o : Option (ℕ × Bool)) →
    1 ≤ length ts → t ≡ get_or ts 0 t → is_directive (seen t).terminal ≡ false → same (Name x) (seen t).terminal ≡ false →
    m ≡ allowed_at x g s n (seen t) (seen_all (behind ts)) → o ≡ place_behind d (seen t) (seen_all (behind ts)) →
    is_gathered x g d s n (seen_all ts) ≡ places o (λ d s. is_gathered x g d s m (seen_all (behind ts)))
gathered_other x g d s n m ts t o h e f k l p =
    ap (is_gathered x g d s n) (begins_with ts t h e)
    ∙ rw (f, k) (other_is d 0 (seen t) (seen_all (behind ts))
    (λ c u j. is_gathered x g c u (allowed_at x g s n (seen t) (seen_all (behind ts))) (seen_all (behind ts))))
    ∙ ap (λ (q : Option (ℕ × Bool)). places q (λ c u. is_gathered x g c u (allowed_at x g s n (seen t) (seen_all (behind ts)))
    (seen_all (behind ts)))) (sym p)
    ∙ ap (λ (j : ℕ). places o (λ c u. is_gathered x g c u j (seen_all (behind ts)))) (sym l)

pub gathered_token : (x : List ℕ) (g : Bool) (d : ℕ) (s : Bool) (n m d' : ℕ) (s' : Bool) (ts : List Token) (t : Token) →
    1 ≤ length ts → t ≡ get_or ts 0 t → is_directive (seen t).terminal ≡ false → same (Name x) (seen t).terminal ≡ false →
    m ≡ allowed_at x g s n (seen t) (seen_all (behind ts)) →
    Some (d', s') ≡ place_behind d (seen t) (seen_all (behind ts)) →
    is_gathered x g d' s' m (seen_all (behind ts)) ≡ is_gathered x g d s n (seen_all ts)
gathered_token x g d s n m d' s' ts t h e f k l p = sym (gathered_other x g d s n m ts t (Some (d', s')) h e f k l p)

pub gathered_ends : (x : List ℕ) (g : Bool) (d : ℕ) (s : Bool) (n : ℕ) (ts : List Token) (t : Token) → 1 ≤ length ts →
    t ≡ get_or ts 0 t → is_directive (seen t).terminal ≡ false → same (Name x) (seen t).terminal ≡ false →
    None ≡ place_behind d (seen t) (seen_all (behind ts)) → true ≡ is_gathered x g d s n (seen_all ts)
gathered_ends x g d s n ts t h e f k p =
    sym (gathered_other x g d s n (allowed_at x g s n (seen t) (seen_all (behind ts))) ts t None h e f k refl p)
