-- What is left out of the clauses of a line is none of its end.
use Rattle.std.proofs.Common.{◌≡◌, ◌∙◌, ℕ, zero, suc, ◌+◌, ◌-◌, ◌<◌, ◌≤◌, Bool, true, false, cond, List, [], ◌∷◌, ◌++◌, length, drop, get_or, take, map, Option, Some, None, refl, ap, arith}
use Rattle.std.specs.Prelude.{◌&&◌, ◌||◌, ◌==◌, codes}
use Rattle.std.proofs.lemmas.List.{take_all}
use Rattle.c_tokens.specs.declared.kind.Sign.TheVariants as sign
use Rattle.c_grammar.specs.Lexeme.{Lexeme, Signed, Worded, Ended, Placed, same}
use Rattle.c_grammar.specs.Expressions.{Values}
use Rattle.c_grammar.specs.LineForms.{is_sign}
use Rattle.c_grammar.specs.Clauses.{BeforeName, Keep, LeaveOut, Place, PutType, Scope, Step, are_items, at_begin, begins_clause, clause_len, clause_step, clauses_from, clauses_in_full, default_len, idle_len, is_any_kind, is_default, is_idle, is_one_kind, leave_or, list_len, map_len, may_stand, names_len, place_after, put_step, scope_of, step_at, type_step, up_to_next, with_comma}
use Rattle.directives.specs.declared.lexeme.PlacedLexeme.{PlacedLexeme}
use Rattle.directives.specs.Seen.{ends_well, is_whole, seen_placed}
use Rattle.c_written.proofs.WholeBounds.{both, whole_front, whole_behind}
use Rattle.c_written.proofs.WholeLines.{whole_cons, whole_tail}

-- a choice, by its test
by_test : {X : Type 0} (b : Bool) (x y z : X) (P : Type 0) → (b ≡ true → x ≡ z → P) → (b ≡ false → y ≡ z → P) →
    cond b x y ≡ z → P
by_test true x y z P f g e = f refl e
by_test false x y z P f g e = g refl e

-- ---- how long a clause is

pub names_within : (s : Scope) (scalar : Bool) (ps : List Placed) (k n : ℕ) → names_len s scalar k ps ≡ Some n → n ≤ k + length ps
names_within s scalar [] k n e = absurd cc
names_within s scalar (x ∷ []) k n e = absurd cc
names_within s scalar (x ∷ c ∷ ps) k n e =
    by_test (may_stand s scalar x.lexeme) _ None (Some n) (n ≤ k + length (x ∷ c ∷ ps))
    (λ _ f. by_test (is_sign sign.CloseParen c.lexeme) (Some (k + 2)) _ (Some n) (n ≤ k + length (x ∷ c ∷ ps))
    (λ _ g. (let same : k + 2 ≡ n = cc in omega (arith, same)))
    (λ _ g. by_test (is_sign sign.Comma c.lexeme) (names_len s scalar (k + 2) ps) None (Some n) (n ≤ k + length (x ∷ c ∷ ps))
    (λ _ h. (let few = names_within s scalar ps (k + 2) n h in omega (arith, few)))
    (λ _ h. absurd cc) g) f)
    (λ _ f. absurd cc) e

default_within : (ps : List Placed) (n : ℕ) → default_len ps ≡ Some n → n ≤ 1 + length ps
default_within [] n e = absurd cc
default_within (x ∷ []) n e = absurd cc
default_within (x ∷ c ∷ ps) n e =
    by_test (is_default x.lexeme && is_sign sign.CloseParen c.lexeme) (Some 3) None (Some n)
    (n ≤ 1 + length (x ∷ c ∷ ps)) (λ _ f. (let three : 3 ≡ n = cc in omega (arith, three))) (λ _ f. absurd cc) e

any_within : (ps : List Placed) → is_any_kind ps ≡ true → 2 ≤ length ps
any_within [] e = absurd cc
any_within (w ∷ []) e = absurd cc
any_within (w ∷ c ∷ ps) e = omega arith

one_within : (s : Scope) (ps : List Placed) → is_one_kind s ps ≡ true → 4 ≤ length ps
one_within s [] e = absurd cc
one_within s (w ∷ []) e = absurd cc
one_within s (w ∷ c ∷ []) e = absurd cc
one_within s (w ∷ c ∷ k ∷ []) e = absurd cc
one_within s (w ∷ c ∷ k ∷ d ∷ ps) e = omega arith

map_within : (s : Scope) (ps : List Placed) (n : ℕ) → map_len s ps ≡ Some n → n ≤ 1 + length ps
map_within s ps n e =
    by_test (is_any_kind ps) (Some 3) _ (Some n) (n ≤ 1 + length ps)
    (λ g f. (let three : 3 ≡ n = cc in let two = any_within ps g in omega (arith, three, two)))
    (λ _ f. by_test (is_one_kind s ps) (Some 5) None (Some n) (n ≤ 1 + length ps)
    (λ g h. (let five : 5 ≡ n = cc in let four = one_within s ps g in omega (arith, five, four))) (λ _ h. absurd cc) f) e

pub list_within : (s : Scope) (t : Lexeme) (ps : List Placed) (n : ℕ) → list_len s t ps ≡ Some n → n ≤ 1 + length ps
list_within s t ps n e =
    by_test (s.shares && same (Worded (codes "default")) t) (default_len ps) _ (Some n) (n ≤ 1 + length ps)
    (λ _ f. default_within ps n f)
    (λ _ f. by_test (s.shares && same (Worded (codes "shared")) t) (names_len s false 1 ps) _ (Some n) (n ≤ 1 + length ps)
    (λ _ g. names_within s false ps 1 n g)
    (λ _ g. by_test (s.captures && same (Worded (codes "firstprivate")) t) (names_len s true 1 ps) _ (Some n) (n ≤ 1 + length ps)
    (λ _ h. names_within s true ps 1 n h)
    (λ _ h. by_test (s.captures && same (Worded (codes "defaultmap")) t) (map_len s ps) None (Some n) (n ≤ 1 + length ps)
    (λ _ j. map_within s ps n j) (λ _ j. absurd cc) h) g) f) e

pub clause_within : (s : Scope) (ps : List Placed) (n : ℕ) → clause_len s ps ≡ Some n → n + 1 ≤ length ps
clause_within s [] n e = absurd cc
clause_within s (p ∷ []) n e = absurd cc
clause_within s (p ∷ o ∷ ps) n e =
    by_test (is_sign sign.OpenParen o.lexeme) (list_len s p.lexeme ps) None (Some n) (n + 1 ≤ length (p ∷ o ∷ ps))
    (λ _ f. (let few = list_within s p.lexeme ps n f in omega (arith, few))) (λ _ f. absurd cc) e

some_clause : (ps : List Placed) → begins_clause ps ≡ true → 0 < length ps
some_clause [] e = absurd cc
some_clause (p ∷ ps) e = omega arith

comma_within : (k : ℕ) (ps : List Placed) (n : ℕ) → with_comma k ps ≡ Some n → n < k + length ps
comma_within k [] n e = absurd cc
comma_within k (p ∷ ps) n e =
    by_test (same Ended p.lexeme || begins_clause (p ∷ ps)) (Some k) _ (Some n) (n < k + length (p ∷ ps))
    (λ _ f. (let all : k ≡ n = cc in omega (arith, all)))
    (λ _ f. by_test (is_sign sign.Comma p.lexeme && begins_clause ps) (Some (k + 1)) None (Some n) (n < k + length (p ∷ ps))
    (λ g h. (let all : k + 1 ≡ n = cc in
    let more : 0 < length ps = some_clause ps (both (is_sign sign.Comma p.lexeme) (begins_clause ps) g).1 in omega (arith, all, more)))
    (λ _ h. absurd cc) f) e

drop_length : (k : ℕ) (ps : List Placed) → length (drop k ps) ≡ length ps - k
drop_length zero ps = (let same : length ps ≡ length ps - 0 = omega arith in same)
drop_length (suc k) [] = omega arith
drop_length (suc k) (p ∷ ps) = (let rest = drop_length k ps in omega (arith, rest))

next_within : (o : Option ℕ) (ps : List Placed) (n : ℕ) → ((k : ℕ) → o ≡ Some k → k + 1 ≤ length ps) →
    up_to_next o ps ≡ Some n → n + 1 < length ps
next_within None ps n h e = absurd cc
next_within (Some k) ps n h e =
    let few = h k refl in
    let less = comma_within k (drop (k + 1) ps) n e in
    omega (arith, few, less, drop_length (k + 1) ps)

idle_within : (s : Scope) (ps : List Placed) (n : ℕ) → idle_len s ps ≡ Some n → n + 1 < length ps
idle_within s ps n e = next_within (clause_len s ps) ps n (clause_within s ps) e

-- ---- what becomes of a token

abbrev Fits : Placed → List Placed → Step → Type 0
Fits p ps Keep = Unit {0}
Fits p ps (LeaveOut k) = k < length ps
Fits p ps (PutType o column) = (ends_well p.lexeme false ≡ true) × (ends_well o.lexeme false ≡ true) × (1 < length ps)

fits_either : (p : Placed) (ps : List Placed) (b : Bool) (q r : Step) → (b ≡ true → Fits p ps q) → Fits p ps r →
    Fits p ps (cond b q r)
fits_either p ps true q r f g = f refl
fits_either p ps false q r f g = g

fits_leave : (p : Placed) (ps : List Placed) (o : Option ℕ) (q : Step) → ((k : ℕ) → o ≡ Some k → k < length ps) →
    Fits p ps q → Fits p ps (leave_or o q)
fits_leave p ps None q f g = g
fits_leave p ps (Some k) q f g = f k refl

type_fits : (p : Placed) (ps : List Placed) → is_whole (p ∷ ps) ≡ true → Fits p ps (type_step (p ∷ ps))
type_fits p [] w = tt
type_fits p (o ∷ []) w = tt
type_fits p (o ∷ n ∷ ps) w =
    fits_either p (o ∷ n ∷ ps)
    (same (Worded (codes "map")) p.lexeme && is_sign sign.OpenParen o.lexeme && are_items BeforeName (n ∷ ps))
    (PutType o n.column) Keep
    (λ _. (whole_front p o (n ∷ ps) w, whole_front o n ps (whole_behind p o (n ∷ ps) w), omega arith)) tt

some_idle : (s : Scope) (ps : List Placed) (o : Option ℕ) → idle_len s ps ≡ o → is_idle o ≡ true → 0 < length ps
some_idle s ps None f e = absurd cc
some_idle s ps (Some k) f e = (let few = idle_within s ps k f in omega (arith, few))

clause_fits : (s : Scope) (ended : Bool) (p : Placed) (ps : List Placed) → is_whole (p ∷ ps) ≡ true →
    Fits p ps (clause_step s ended (p ∷ ps))
clause_fits s ended p ps w =
    fits_either p ps (ended && is_sign sign.Comma p.lexeme && is_idle (idle_len s ps)) (LeaveOut 0) _
    (λ e. some_idle s ps (idle_len s ps) refl (both (ended && is_sign sign.Comma p.lexeme) (is_idle (idle_len s ps)) e).1)
    (fits_leave p ps (idle_len s (p ∷ ps)) (type_step (p ∷ ps))
    (λ k e. (let few = idle_within s (p ∷ ps) k e in omega (arith, few))) (type_fits p ps w))

step_fits : (s : Scope) (at : Place) (p : Placed) (ps : List Placed) → is_whole (p ∷ ps) ≡ true →
    Fits p ps (step_at s at (p ∷ ps))
step_fits s at p ps w =
    fits_either p ps (at.depth == 0) (clause_step s at.ended (p ∷ ps)) Keep (λ _. clause_fits s at.ended p ps w) tt

-- ---- the line

abbrev Ahead : Scope → List Placed → Type 0
Ahead s ps = (at : Place) (k : ℕ) → k < length ps → is_whole (clauses_from s at k ps) ≡ true

kept_whole : (s : Scope) (at : Place) (p : Placed) (ps : List Placed) → is_whole (p ∷ ps) ≡ true → Ahead s ps →
    is_whole (p ∷ clauses_from s at 0 ps) ≡ true
unfolding clauses_from
kept_whole s at p [] w h = w
kept_whole s at p (q ∷ ps) w h =
    whole_cons p (clauses_from s at 0 (q ∷ ps)) (whole_front p q ps w) (h at 0 (omega arith))

put_whole : (s : Scope) (at : Place) (p : Placed) (ps : List Placed) (q : Step) → is_whole (p ∷ ps) ≡ true →
    Fits p ps q → Ahead s ps → is_whole (put_step s at p q (λ at k. clauses_from s at k ps)) ≡ true
put_whole s at p ps Keep w f h = kept_whole s (place_after p.lexeme at) p ps w h
put_whole s at p ps (LeaveOut k) w f h = h at k f
put_whole s at p ps (PutType o column) w f h =
    let inside : Place = record { depth = 1; ended = false } in
    let rest : List Placed = clauses_from s inside 1 ps in
    let colon : Placed = record { lexeme = Signed sign.Colon; column = column } in
    let word : Placed = record { lexeme = Worded s.map_type; column = column } in
    whole_cons p (o ∷ word ∷ colon ∷ rest) f.0 (whole_cons o (word ∷ colon ∷ rest) f.1
    (whole_cons word (colon ∷ rest) refl (whole_cons colon rest refl (h inside 1 f.2))))

whole_from : (s : Scope) (ps : List Placed) (at : Place) (k : ℕ) → k < length ps → is_whole ps ≡ true →
    is_whole (clauses_from s at k ps) ≡ true
unfolding clauses_from
whole_from s [] at k h w = absurd (omega arith)
whole_from s (p ∷ ps) at (suc k) h w = whole_from s ps at k (omega arith) (whole_tail p ps (omega arith) w)
whole_from s (p ∷ ps) at zero h w =
    put_whole s at p ps (step_at s at (p ∷ ps)) w (step_fits s at p ps w)
    (λ at k h. whole_from s ps at k h (whole_tail p ps (omega arith) w))

pub whole_clauses : (names : List (List ℕ)) (ls : Values) (ps : List Placed) → is_whole ps ≡ true →
    is_whole (clauses_in_full names ls ps) ≡ true
unfolding clauses_from
whole_clauses names ls [] w = w
whole_clauses names ls (p ∷ []) w = w
whole_clauses names ls (p ∷ q ∷ []) w = w
whole_clauses names ls (p ∷ q ∷ r ∷ ps) w =
    let s = scope_of names ls (r ∷ ps) in
    let last = whole_behind p q (r ∷ ps) w in
    whole_cons p (q ∷ clauses_from s at_begin 0 (r ∷ ps)) (whole_front p q (r ∷ ps) w)
    (whole_cons q (clauses_from s at_begin 0 (r ∷ ps)) (whole_front q r ps last)
    (whole_from s (r ∷ ps) at_begin 0 (omega arith) (whole_behind q r ps last)))

pub short_line : (names : List (List ℕ)) (ls : Values) (ps : List Placed) → length ps < 2 → clauses_in_full names ls ps ≡ ps
short_line names ls [] h = refl
short_line names ls (p ∷ []) h = refl
short_line names ls (p ∷ q ∷ ps) h = absurd (omega arith)

-- the first two tokens, and the others
pub front_two : (names : List (List ℕ)) (ls : Values) (ts : List PlacedLexeme) (d e : PlacedLexeme) (s : Scope) → 2 ≤ length ts →
    s ≡ scope_of names ls (map seen_placed (take (length ts - 2) (drop 2 ts))) →
    map seen_placed (get_or ts 0 d ∷ get_or ts 1 e ∷ []) ++
    clauses_from s at_begin 0 (map seen_placed (take (length ts - 2) (drop 2 ts))) ≡
    clauses_in_full names ls (map seen_placed ts)
front_two names ls [] d e s h f = absurd (omega arith)
front_two names ls (t ∷ []) d e s h f = absurd (omega arith)
front_two names ls (t ∷ u ∷ ts) d e s h f =
    let all : take (length (t ∷ u ∷ ts) - 2) ts ≡ ts = take_all (length (t ∷ u ∷ ts) - 2) ts (omega arith) in
    ap (λ (x : Scope). seen_placed t ∷ seen_placed u ∷ clauses_from x at_begin 0
    (map seen_placed (take (length (t ∷ u ∷ ts) - 2) ts))) f
    ∙ ap (λ (us : List PlacedLexeme). seen_placed t ∷ seen_placed u ∷
    clauses_from (scope_of names ls (map seen_placed us)) at_begin 0 (map seen_placed us)) all
