-- Where the turns of a region meet depends on the loops around it alone that it names in a subscript or a condition.
use Rattle.std.proofs.Common.{◌≡◌, ℕ, zero, suc, ◌+◌, ◌<◌, Bool, true, false, List, [], ◌∷◌, ◌++◌, Some, refl, sym, ap, ap₂, ◌∙◌, length}
use Rattle.std.specs.Prelude.{not, ◌&&◌, ◌||◌, flat_map}
use Rattle.std.specs.List.{list_any}
use Rattle.std.proofs.Math.Bool.{or-false}
use Rattle.base.specs.declared.item.Cell.{Cell}
use Rattle.base.specs.declared.tree.Region.{Region}
use Rattle.base.specs.declared.tree.Stmt.{Stmt, Row_of-Stmt, end_of-Stmt, more_of-Stmt}
use Rattle.base.specs.declared.tree.Stmt.TheVariants.{Declare, Assign, Store, Combine, Print, Block', Loop', If'}
use Rattle.base.specs.Meaning.{turns_of}
use Rattle.base.specs.Footprint.{Touch, stmt_touches, reads, writes}
use Rattle.base.specs.Items.{Work}
use Rattle.base.specs.ScalarUse.{list_assigned, list_needs}
use Rattle.base.specs.Turns.{Turn, listed, each_turn, turns_at, turns_in_work, turn_touches, commute_at, crosses, turns_meet}
use Rattle.regions.specs.Deciding.{stmt_decides, row_decides, list_decides, AgreeWhere, AgreeWhereDeciding}
use Rattle.regions.proofs.Undeciding.{same_push, list_alike}

-- two turns do the same statements and touch the same
record Alike (s t : Turn) : Type 0 where
  body : s.body ≡ t.body
  touches : turn_touches s ≡ turn_touches t

abbrev AllAlike : List Turn → List Turn → Type 0
AllAlike [] [] = Unit {0}
AllAlike (s ∷ ss) (t ∷ ts) = Alike s t × AllAlike ss ts
AllAlike _ _ = ⊥

alike_append : (xs us ys vs : List Turn) → AllAlike xs us → AllAlike ys vs → AllAlike (xs ++ ys) (us ++ vs)
alike_append [] [] ys vs h k = k
alike_append (x ∷ xs) (u ∷ us) ys vs h k = (h.0, alike_append xs us ys vs h.1 k)
alike_append [] (u ∷ us) ys vs h k = absurd h
alike_append (x ∷ xs) [] ys vs h k = absurd h

each_alike : (n v step : ℕ) (f g : ℕ → List Turn) → ((v : ℕ) → AllAlike (f v) (g v)) →
    AllAlike (each_turn n v step f) (each_turn n v step g)
each_alike zero v step f g h = tt
each_alike (suc n) v step f g h =
    alike_append (f v) (g v) (each_turn n (v + step) step f) (each_turn n (v + step) step g) (h v)
    (each_alike n (v + step) step f g h)

listed_decides : {m : _} (level : ℕ) (row : Row_of-Stmt m) → list_decides level (listed row) ≡ row_decides level row
listed_decides level end_of-Stmt = refl
listed_decides level (more_of-Stmt first rest) =
    ap (λ (b : Bool). stmt_decides level first || b) (listed_decides level rest)

agree_on : (p q : ℕ → Bool) (xs ys : List ℕ) → ((i : ℕ) → q i ≡ p i) → AgreeWhere p xs ys → AgreeWhere q xs ys
agree_on p q xs ys e s = record { count = s.count; values = λ i inside h. s.values i inside (sym (e i) ∙ h) }

one_alike : (body : List Stmt) (xs ys : List ℕ) → AgreeWhere (λ i. list_decides i body) xs ys →
    AllAlike (turns_at 0 body xs) (turns_at 0 body ys)
one_alike body xs ys s = (record { body = refl; touches = list_alike xs ys true body s }, tt)

-- the turns of the d + 1 outermost loops of one statement, where those of d loops of any body are known
looped_alike : (d : ℕ) (xs ys : List ℕ) →
    ((body : List Stmt) (xs ys : List ℕ) → AgreeWhere (λ i. list_decides i body) xs ys →
    AllAlike (turns_at d body xs) (turns_at d body ys)) →
    (s : Stmt) → AgreeWhere (λ i. list_decides i (s ∷ [])) xs ys →
    AllAlike (turns_at (suc d) (s ∷ []) xs) (turns_at (suc d) (s ∷ []) ys)
looped_alike d xs ys ih (Loop' b shape all) s =
    each_alike (turns_of b) b.first b.step (λ v. turns_at d (listed all) (xs ++ v ∷ []))
    (λ v. turns_at d (listed all) (ys ++ v ∷ []))
    (λ v. ih (listed all) (xs ++ v ∷ []) (ys ++ v ∷ [])
    (same_push (λ i. list_decides i (listed all)) xs ys v
    (agree_on (λ i. list_decides i (Loop' b shape all ∷ [])) (λ i. list_decides i (listed all)) xs ys
    (λ i. listed_decides i all ∙ sym (or-false (row_decides i all))) s)))
looped_alike d xs ys ih (Declare x v) s = one_alike (Declare x v ∷ []) xs ys s
looped_alike d xs ys ih (Assign x v) s = one_alike (Assign x v ∷ []) xs ys s
looped_alike d xs ys ih (Store a place e v) s = one_alike (Store a place e v ∷ []) xs ys s
looped_alike d xs ys ih (Combine op a place e v) s = one_alike (Combine op a place e v ∷ []) xs ys s
looped_alike d xs ys ih (Print e) s = one_alike (Print e ∷ []) xs ys s
looped_alike d xs ys ih (Block' shape all) s = one_alike (Block' shape all ∷ []) xs ys s
looped_alike d xs ys ih (If' c shape all shape' all') s = one_alike (If' c shape all shape' all' ∷ []) xs ys s

turns_alike_at : (d : ℕ) (body : List Stmt) (xs ys : List ℕ) → AgreeWhere (λ i. list_decides i body) xs ys →
    AllAlike (turns_at d body xs) (turns_at d body ys)
turns_alike_at zero body xs ys s = one_alike body xs ys s
turns_alike_at (suc d) [] xs ys s = one_alike [] xs ys s
turns_alike_at (suc d) (x ∷ []) xs ys s = looped_alike d xs ys (turns_alike_at d) x s
turns_alike_at (suc d) (x ∷ y ∷ rest) xs ys s = one_alike (x ∷ y ∷ rest) xs ys s

-- ---- where they meet

abbrev cross_on : List Touch → List Stmt → List Touch → List Stmt → Cell → Bool
cross_on a x b y c =
    writes a c
    && (((reads b c || writes b c) && not (commute_at a b c)) || list_any (λ z. list_needs z x) (list_assigned y))

crosses_alike : (s t u v : Turn) (c : Cell) → Alike s u → Alike t v → crosses s t c ≡ crosses u v c
crosses_alike s t u v c h k =
    ap₂ (λ (a : List Touch) (x : List Stmt). cross_on a x (turn_touches t) t.body c) h.touches h.body
    ∙ ap₂ (λ (b : List Touch) (y : List Stmt). cross_on (turn_touches u) u.body b y c) k.touches k.body

pairs_alike : (s u : Turn) (ts vs : List Turn) (c : Cell) → Alike s u → AllAlike ts vs →
    list_any (λ t. crosses s t c || crosses t s c) ts ≡ list_any (λ t. crosses u t c || crosses t u c) vs
pairs_alike s u [] [] c h k = refl
pairs_alike s u (t ∷ ts) (v ∷ vs) c h k =
    ap₂ (λ (a b : Bool). a || b)
    (ap₂ (λ (a b : Bool). a || b) (crosses_alike s t u v c h k.0) (crosses_alike t s v u c k.0 h))
    (pairs_alike s u ts vs c h k.1)
pairs_alike s u [] (v ∷ vs) c h k = absurd k
pairs_alike s u (t ∷ ts) [] c h k = absurd k

meet_alike : (ss us : List Turn) (c : Cell) → AllAlike ss us → turns_meet ss c ≡ turns_meet us c
meet_alike [] [] c h = refl
meet_alike (s ∷ ss) (u ∷ us) c h =
    ap₂ (λ (a b : Bool). a || b) (pairs_alike s u ss us c h.0 h.1) (meet_alike ss us c h.1)
meet_alike [] (u ∷ us) c h = absurd h
meet_alike (s ∷ ss) [] c h = absurd h

pub turns_meet_alike : (r : Region) (loops other : List ℕ) → AgreeWhereDeciding r loops other → (c : Cell) →
    turns_meet (turns_at r.depth r.body.items loops) c ≡ turns_meet (turns_at r.depth r.body.items other) c
turns_meet_alike r loops other s c =
    meet_alike (turns_at r.depth r.body.items loops) (turns_at r.depth r.body.items other) c
    (turns_alike_at r.depth r.body.items loops other s)
