-- Turns meet where one of them meets those before it.
use Rattle.std.proofs.Common.{◌≡◌, ℕ, zero, suc, ◌+◌, Bool, true, false, List, [], ◌∷◌, ◌++◌, Option, Some, None, refl, sym, ap, subst, ◌∙◌, ⊎_elim, inl, inr}
use Rattle.std.specs.Prelude.{not, ◌&&◌, ◌||◌, flat_map}
use Rattle.std.specs.List.{list_any}
use Rattle.std.proofs.lemmas.Bool.{and_right, or_cases, or_left, or_right}
use Rattle.std.proofs.Math.Bool.{or-false}
use Rattle.base.specs.declared.item.Cell.{Cell}
use Rattle.base.specs.declared.tree.Bounds.{Bounds}
use Rattle.base.specs.declared.tree.Stmt.{Stmt}
use Rattle.base.specs.Footprint.{Touch, has_cell, reads, writes}
use Rattle.base.specs.ScalarUse.{list_assigned, list_needs}
use Rattle.base.specs.Meaning.{turns_of}
use Rattle.base.specs.Turns.{Turn, commute_at, crosses, each_turn, gives_scalar, only_loop, turn_touches, turns_at, turns_meet}
use Rattle.base.proofs.TurnTouches.{meeting_writes}
use Rattle.ranges.specs.Meetings.{meets_before, meets_from, touched_before, turn_body}
use Rattle.ranges.specs.Ways.{kind_of, opposes}
use Rattle.ranges.proofs.UpdatePairs.{turn_paired}
use Rattle.ranges.proofs.WayConflicts.{conflicts_meet}
use Rattle.ranges.proofs.WayMeetings.{conflict, meeting_conflicts, touches}
use Rattle.ranges.proofs.WayTests.{any_none, any_or, any_same, bool_same}

-- the turns do these statements
abbrev AreTurnsOf : List Stmt → List Turn → Type 0
AreTurnsOf body [] = Unit {0}
AreTurnsOf body (t ∷ rest) = (t.body ≡ body) × AreTurnsOf body rest

-- ---- tests

or_again : (a b c : Bool) → (a || (b || c)) ≡ ((a || b) || c)
or_again true b c = refl
or_again false b c = refl

and_or : (x a b : Bool) → (x && (a || b)) ≡ ((x && a) || (x && b))
and_or true a b = refl
and_or false a b = refl

any_append : {A : Type 0} (f : A → Bool) (xs ys : List A) → list_any f (xs ++ ys) ≡ (list_any f xs || list_any f ys)
any_append f [] ys = refl
any_append f (x ∷ xs) ys =
    ap (λ (b : Bool). f x || b) (any_append f xs ys) ∙ or_again (f x) (list_any f xs) (list_any f ys)

any_split : {A : Type 0} (h f g : A → Bool) (xs : List A) →
    list_any (λ x. h x && (f x || g x)) xs ≡ (list_any (λ x. h x && f x) xs || list_any (λ x. h x && g x) xs)
any_split h f g xs =
    any_same (λ x. h x && (f x || g x)) (λ x. (h x && f x) || (h x && g x)) xs (λ x. and_or (h x) (f x) (g x))
    ∙ any_or (λ x. h x && f x) (λ x. h x && g x) xs

behind_both : (before now next : List Touch) (c : Cell) →
    meets_before (before ++ now) next c ≡ (meets_before before next c || meets_before now next c)
behind_both before now next c =
    any_same (λ t. has_cell c t && touched_before (before ++ now) (kind_of t) c)
    (λ t. has_cell c t && (touched_before before (kind_of t) c || touched_before now (kind_of t) c)) next
    (λ t. ap (λ (b : Bool). has_cell c t && b)
    (any_append (λ s. opposes (kind_of s) (kind_of t) && has_cell c s) before now))
    ∙ any_split (has_cell c) (λ t. touched_before before (kind_of t) c) (λ t. touched_before now (kind_of t) c) next

pub gives_none : (body : List Stmt) (s t : Turn) → list_any (λ x. list_needs x body) (list_assigned body) ≡ false →
    s.body ≡ body → t.body ≡ body → gives_scalar s t ≡ false
gives_none body s t h e f =
    ap (λ (b : List Stmt). list_any (λ x. list_needs x b) (list_assigned s.body)) f
    ∙ ap (λ (b : List Stmt). list_any (λ x. list_needs x body) (list_assigned b)) e ∙ h

-- two turns that give each other no scalar
cross_same : (s t : Turn) (c : Cell) → gives_scalar s t ≡ false → gives_scalar t s ≡ false →
    meets_before (turn_touches s) (turn_touches t) c ≡ (crosses s t c || crosses t s c)
cross_same s t c g h = bool_same _ _ forth back
  where
    crossed : (us vs : List Touch) (x : Bool) → x ≡ false →
        (writes us c && ((touches vs c && not (commute_at us vs c)) || x)) ≡ conflict us vs c
    crossed us vs x e =
        ap (λ (b : Bool). writes us c && ((touches vs c && not (commute_at us vs c)) || b)) e
        ∙ ap (λ (b : Bool). writes us c && b) (or-false (touches vs c && not (commute_at us vs c)))

    forth : meets_before (turn_touches s) (turn_touches t) c ≡ true → (crosses s t c || crosses t s c) ≡ true
    forth m =
        ⊎_elim (λ a. or_left (crosses s t c) (crosses t s c)
        (crossed (turn_touches s) (turn_touches t) (gives_scalar t s) h ∙ a))
        (λ a. or_right (crosses s t c) (crosses t s c)
        (crossed (turn_touches t) (turn_touches s) (gives_scalar s t) g ∙ a))
        (meeting_conflicts (turn_touches s) (turn_touches t) c (turn_paired s) (turn_paired t) m)

    back : (crosses s t c || crosses t s c) ≡ true → meets_before (turn_touches s) (turn_touches t) c ≡ true
    back m =
        conflicts_meet (turn_touches s) (turn_touches t) c
        (⊎_elim (λ a. inl (sym (crossed (turn_touches s) (turn_touches t) (gives_scalar t s) h) ∙ a))
        (λ a. inr (sym (crossed (turn_touches t) (turn_touches s) (gives_scalar s t) g) ∙ a))
        (or_cases (crosses s t c) (crosses t s c) m))

crosses_same : (body : List Stmt) (s : Turn) (rest : List Turn) (c : Cell) →
    list_any (λ x. list_needs x body) (list_assigned body) ≡ false → s.body ≡ body → AreTurnsOf body rest →
    list_any (λ t. meets_before (turn_touches s) (turn_touches t) c) rest ≡
    list_any (λ t. crosses s t c || crosses t s c) rest
crosses_same body s [] c h e r = refl
crosses_same body s (t ∷ rest) c h e r =
    ap (λ (b : Bool). b || list_any (λ u. meets_before (turn_touches s) (turn_touches u) c) rest)
    (cross_same s t c (gives_none body s t h e r.0) (gives_none body t s h r.0 e))
    ∙ ap (λ (b : Bool). (crosses s t c || crosses t s c) || b) (crosses_same body s rest c h e r.1)

-- ---- all turns

met_from : (body : List Stmt) (before : List Touch) (turns : List Turn) (c : Cell) →
    list_any (λ x. list_needs x body) (list_assigned body) ≡ false → AreTurnsOf body turns →
    meets_from before turns c ≡ (list_any (λ t. meets_before before (turn_touches t) c) turns || turns_meet turns c)
met_from body before [] c h r = refl
met_from body before (s ∷ rest) c h r =
    let now : Bool = meets_before before (turn_touches s) c in
    let old : Bool = list_any (λ t. meets_before before (turn_touches t) c) rest in
    let own : Bool = list_any (λ t. meets_before (turn_touches s) (turn_touches t) c) rest in
    let all : Bool = turns_meet rest c in
    ap (λ (b : Bool). now || b) (met_from body (before ++ turn_touches s) rest c h r.1)
    ∙ ap (λ (b : Bool). now || (b || all))
    (any_same _ _ rest (λ t. behind_both before (turn_touches s) (turn_touches t) c)
    ∙ any_or (λ t. meets_before before (turn_touches t) c) (λ t. meets_before (turn_touches s) (turn_touches t) c) rest)
    ∙ ap (λ (b : Bool). now || b) (sym (or_again old own all))
    ∙ or_again now old (own || all)
    ∙ ap (λ (b : Bool). (now || old) || (b || all)) (crosses_same body s rest c h r.0 r.1)

none_before : (turns : List Turn) (c : Cell) → list_any (λ t. meets_before [] (turn_touches t) c) turns ≡ false
none_before turns c =
    any_none (λ t. meets_before [] (turn_touches t) c) turns
    (λ t. any_none (λ u. has_cell c u && false) (turn_touches t) (λ u. and_right (has_cell c u) false refl))

met_turns : (body : List Stmt) (turns : List Turn) (c : Cell) →
    list_any (λ x. list_needs x body) (list_assigned body) ≡ false → AreTurnsOf body turns →
    turns_meet turns c ≡ meets_from [] turns c
met_turns body turns c h r =
    sym (met_from body [] turns c h r ∙ ap (λ (b : Bool). b || turns_meet turns c) (none_before turns c))

-- ---- the turns of nested loops

both_of : (body : List Stmt) (xs ys : List Turn) → AreTurnsOf body xs → AreTurnsOf body ys → AreTurnsOf body (xs ++ ys)
both_of body [] ys h k = k
both_of body (x ∷ xs) ys h k = (h.0, both_of body xs ys h.1 k)

each_of : (body : List Stmt) (n v step : ℕ) (turns : ℕ → List Turn) → ((v : ℕ) → AreTurnsOf body (turns v)) →
    AreTurnsOf body (each_turn n v step turns)
each_of body zero v step turns h = tt
each_of body (suc n) v step turns h =
    both_of body (turns v) (each_turn n (v + step) step turns) (h v) (each_of body n (v + step) step turns h)

nest_of : (d : ℕ) (body : List Stmt) (loops : List ℕ) → AreTurnsOf (turn_body d body) (turns_at d body loops)
nest_of zero body loops = (refl, tt)
nest_of (suc d) body loops = go (only_loop body) (λ inner v. nest_of d inner (loops ++ v ∷ []))
  where
    go : (o : Option (Bounds × List Stmt)) →
        ((inner : List Stmt) (v : ℕ) → AreTurnsOf (turn_body d inner) (turns_at d inner (loops ++ v ∷ []))) →
        AreTurnsOf (elim o [
          | None ↦ body
          | Some l ↦ turn_body d l.1
        ]) (elim o [
          | None ↦ record { loops = loops; body = body } ∷ []
          | Some l ↦ each_turn (turns_of l.0) l.0.first l.0.step (λ v. turns_at d l.1 (loops ++ v ∷ []))
        ])
    go None h = (refl, tt)
    go (Some l) h = each_of (turn_body d l.1) (turns_of l.0) l.0.first l.0.step
        (λ v. turns_at d l.1 (loops ++ v ∷ [])) (h l.1)

pub met_before : (d : ℕ) (body : List Stmt) (loops : List ℕ) (c : Cell) →
    list_any (λ x. list_needs x (turn_body d body)) (list_assigned (turn_body d body)) ≡ false →
    turns_meet (turns_at d body loops) c ≡ meets_from [] (turns_at d body loops) c
met_before d body loops c h = met_turns (turn_body d body) (turns_at d body loops) c h (nest_of d body loops)

-- ---- turns that give scalars

given_bits : (a w p q : Bool) → ((a && (p || true)) || (w && (q || true))) ≡ (a || w)
given_bits true true true true = refl
given_bits true true true false = refl
given_bits true true false true = refl
given_bits true true false false = refl
given_bits true false true true = refl
given_bits true false true false = refl
given_bits true false false true = refl
given_bits true false false false = refl
given_bits false true true true = refl
given_bits false true true false = refl
given_bits false true false true = refl
given_bits false true false false = refl
given_bits false false true true = refl
given_bits false false true false = refl
given_bits false false false true = refl
given_bits false false false false = refl

absorbed : (x b m : Bool) → (m ≡ true → b ≡ true) → ((x || b) || m) ≡ (x || b)
absorbed true b m h = refl
absorbed false true m h = refl
absorbed false false true h = sym (h refl)
absorbed false false false h = refl

any_first : {A : Type 0} (w : Bool) (f : A → Bool) (x : A) (xs : List A) →
    list_any (λ y. w || f y) (x ∷ xs) ≡ (w || list_any f (x ∷ xs))
any_first true f x xs = refl
any_first false f x xs = refl

gives_some : (body : List Stmt) (s t : Turn) → list_any (λ x. list_needs x body) (list_assigned body) ≡ true →
    s.body ≡ body → t.body ≡ body → gives_scalar s t ≡ true
gives_some body s t h e f =
    ap (λ (b : List Stmt). list_any (λ x. list_needs x b) (list_assigned s.body)) f
    ∙ ap (λ (b : List Stmt). list_any (λ x. list_needs x body) (list_assigned b)) e ∙ h

cross_given : (s t : Turn) (c : Cell) → gives_scalar s t ≡ true → gives_scalar t s ≡ true →
    (crosses s t c || crosses t s c) ≡ (writes (turn_touches s) c || writes (turn_touches t) c)
cross_given s t c g h =
    let a : Bool = writes (turn_touches s) c in
    let w : Bool = writes (turn_touches t) c in
    let p : Bool = (reads (turn_touches t) c || w) && not (commute_at (turn_touches s) (turn_touches t) c) in
    let q : Bool = (reads (turn_touches s) c || a) && not (commute_at (turn_touches t) (turn_touches s) c) in
    ap (λ (x : Bool). (a && (p || x)) || (w && (q || gives_scalar s t))) h
    ∙ ap (λ (x : Bool). (a && (p || true)) || (w && (q || x))) g ∙ given_bits a w p q

crosses_given : (body : List Stmt) (s : Turn) (rest : List Turn) (c : Cell) →
    list_any (λ x. list_needs x body) (list_assigned body) ≡ true → s.body ≡ body → AreTurnsOf body rest →
    list_any (λ t. crosses s t c || crosses t s c) rest ≡
    list_any (λ t. writes (turn_touches s) c || writes (turn_touches t) c) rest
crosses_given body s [] c h e r = refl
crosses_given body s (t ∷ rest) c h e r =
    ap (λ (b : Bool). b || list_any (λ u. crosses s u c || crosses u s c) rest)
    (cross_given s t c (gives_some body s t h e r.0) (gives_some body t s h r.0 e))
    ∙ ap (λ (b : Bool). (writes (turn_touches s) c || writes (turn_touches t) c) || b)
    (crosses_given body s rest c h e r.1)

any_written : (turns : List Turn) (c : Cell) →
    writes (flat_map turn_touches turns) c ≡ list_any (λ t. writes (turn_touches t) c) turns
any_written [] c = refl
any_written (t ∷ rest) c =
    any_append _ (turn_touches t) (flat_map turn_touches rest)
    ∙ ap (λ (b : Bool). writes (turn_touches t) c || b) (any_written rest c)

given_turns : (body : List Stmt) (s t : Turn) (rest : List Turn) (c : Cell) →
    list_any (λ x. list_needs x body) (list_assigned body) ≡ true → AreTurnsOf body (s ∷ t ∷ rest) →
    turns_meet (s ∷ t ∷ rest) c ≡ writes (flat_map turn_touches (s ∷ t ∷ rest)) c
given_turns body s t rest c h r =
    let met : Bool = turns_meet (t ∷ rest) c in
    let w : Bool = writes (turn_touches s) c in
    let any : Bool = list_any (λ u. writes (turn_touches u) c) (t ∷ rest) in
    ap (λ (b : Bool). b || met) (crosses_given body s (t ∷ rest) c h r.0 r.1)
    ∙ ap (λ (b : Bool). b || met) (any_first w (λ u. writes (turn_touches u) c) t rest)
    ∙ absorbed w any met (λ m. sym (any_written (t ∷ rest) c) ∙ meeting_writes (t ∷ rest) c m)
    ∙ sym (any_written (s ∷ t ∷ rest) c)

pub met_where_written : (d : ℕ) (body : List Stmt) (loops : List ℕ) (c : Cell) (s t : Turn) (rest : List Turn) →
    list_any (λ x. list_needs x (turn_body d body)) (list_assigned (turn_body d body)) ≡ true →
    turns_at d body loops ≡ s ∷ t ∷ rest →
    turns_meet (turns_at d body loops) c ≡ writes (flat_map turn_touches (turns_at d body loops)) c
met_where_written d body loops c s t rest h e =
    ap (λ (ts : List Turn). turns_meet ts c) e
    ∙ given_turns (turn_body d body) s t rest c h
    (subst (λ (ts : List Turn). AreTurnsOf (turn_body d body) ts) e (nest_of d body loops))
    ∙ ap (λ (ts : List Turn). writes (flat_map turn_touches ts) c) (sym e)
