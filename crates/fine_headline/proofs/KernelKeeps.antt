-- What holds of what is left of a kernel, in whatever order its turns go on, where each of its loads and stores keeps it.
use Rattle.std.proofs.Common.{Option, None, ◌≡◌, ℕ, zero, suc, ◌+◌, ◌<◌, ◌≤◌, ◌^◌, ◌%◌, true, List, [], ◌∷◌, ◌++◌, map, Some, refl, arith}
use Rattle.std.specs.Prelude.{flat_map}
use Rattle.base.specs.declared.item.Cell.{Cell}
use Rattle.base.specs.declared.tree.Bounds.{Bounds}
use Rattle.base.specs.declared.tree.CombineOp.{CombineOp}
use Rattle.base.specs.declared.tree.Stmt.{Stmt, Row_of-Stmt, end_of-Stmt, more_of-Stmt}
use Rattle.base.specs.declared.tree.Stmt.TheVariants.{Declare, Assign, Store, Combine, Print, Block', Loop', If'}
use Rattle.base.specs.declared.tree.Region.{Region}
use Rattle.base.specs.Meaning.{Run, turns_of, turns_left}
use Rattle.base.specs.Footprint.{Touch, stmt_touches, row_touches, turns_touch, touches_of}
use Rattle.base.specs.Turns.{Turn, listed, each_turn, turns_at, turn_touches}
use Rattle.fine_machine.specs.Left.{Left, Finished, Asks, Answer, Load, OnDevice, then_left, in_order, waiting, act_of, together, turn_left, kernel_left}
use Rattle.fine_machine.specs.Left.{Store as Puts, Combine as Updates}
use Rattle.regions.proofs.Needs.{Every, every_append, every_left, every_right}
use Rattle.regions.proofs.StatementsDone.{AllSmall, small_push, Fine}
use Rattle.regions.proofs.RegionsDone.{turn_below}
use Rattle.fine_headline.proofs.Regional.{Allowed, list_all}

-- every turn of some
abbrev pub EachTurn : (Turn → Type 0) → List Turn → Type 0
EachTurn P [] = Unit {0}
EachTurn P (t ∷ rest) = P t × EachTurn P rest

pub each_append : (P : Turn → Type 0) (xs ys : List Turn) → EachTurn P xs → EachTurn P ys → EachTurn P (xs ++ ys)
each_append P [] ys h k = k
each_append P (t ∷ xs) ys h k = (h.0, each_append P xs ys h.1 k)

-- Each turn of a region touches what the region touches.
module _ (P : Touch → Type 0) where
  pub record IsWithin (t : Turn) : Type 0 where
    pub loops : AllSmall t.loops
    pub touches : Every P (turn_touches t)

  listed_touches : {m : _} (row : Row_of-Stmt m) (loops : List ℕ) → Every P (row_touches row loops true) →
      Every P (flat_map (λ s. stmt_touches s loops true) (listed row))
  listed_touches end_of-Stmt loops h = tt
  listed_touches (more_of-Stmt first rest) loops h =
      every_append P (stmt_touches first loops true) (flat_map (λ s. stmt_touches s loops true) (listed rest))
      (every_left P (stmt_touches first loops true) (row_touches rest loops true) h)
      (listed_touches rest loops (every_right P (stmt_touches first loops true) (row_touches rest loops true) h))

  each_within : (b : Bounds) (touch : ℕ → List Touch) (turns : ℕ → List Turn) →
      ((v : ℕ) → v < 2 ^ 64 → Every P (touch v) → EachTurn IsWithin (turns v)) →
      (n at : ℕ) → n ≤ turns_left at b → Every P (turns_touch n at b.step touch) →
      EachTurn IsWithin (each_turn n at b.step turns)
  each_within b touch turns each zero at le h = tt
  each_within b touch turns each (suc n) at le h =
      let below = turn_below b at n le in
      each_append IsWithin (turns at) (each_turn n (at + b.step) b.step turns)
      (each at below.0 (every_left P (touch at) (turns_touch n (at + b.step) b.step touch) h))
      (each_within b touch turns each n (at + b.step) below.1
      (every_right P (touch at) (turns_touch n (at + b.step) b.step touch) h))

  pub turns_within : (d : ℕ) (body : List Stmt) (loops : List ℕ) → AllSmall loops →
      Every P (flat_map (λ s. stmt_touches s loops true) body) → EachTurn IsWithin (turns_at d body loops)
  turns_within zero body loops l h = (record { loops = l; touches = h }, tt)
  turns_within (suc d) [] loops l h = (record { loops = l; touches = h }, tt)
  turns_within (suc d) (s ∷ t ∷ rest) loops l h = (record { loops = l; touches = h }, tt)
  turns_within (suc d) (Loop' b shape all ∷ []) loops l h =
      each_within b (λ v. row_touches all (loops ++ v ∷ []) true) (λ v. turns_at d (listed all) (loops ++ v ∷ []))
      (λ v small k. turns_within d (listed all) (loops ++ v ∷ []) (small_push loops v l small)
      (listed_touches all (loops ++ v ∷ []) k)) (turns_of b) b.first (omega arith)
      (every_left P (turns_touch (turns_of b) b.first b.step (λ v. row_touches all (loops ++ v ∷ []) true)) [] h)
  turns_within (suc d) (Declare x v ∷ []) loops l h = (record { loops = l; touches = h }, tt)
  turns_within (suc d) (Assign x v ∷ []) loops l h = (record { loops = l; touches = h }, tt)
  turns_within (suc d) (Store a place e v ∷ []) loops l h = (record { loops = l; touches = h }, tt)
  turns_within (suc d) (Combine op a place e v ∷ []) loops l h = (record { loops = l; touches = h }, tt)
  turns_within (suc d) (Print e ∷ []) loops l h = (record { loops = l; touches = h }, tt)
  turns_within (suc d) (Block' shape all ∷ []) loops l h = (record { loops = l; touches = h }, tt)
  turns_within (suc d) (If' c shape all shape' all' ∷ []) loops l h = (record { loops = l; touches = h }, tt)

-- what is left asks only for cells that may be read, and for stores in those that may be written
module _ (reads writes : Option CombineOp → Cell → Type 0) where
  pub data Confined : Left → Type 0 where
    ended : (t : Run) → Confined (Finished t)
    loads : (c : Cell) (k : Answer → Left) → reads None c → ((a : Answer) → a.number < 2 ^ 64 → Confined (k a)) →
        Confined (Asks (Load OnDevice c) k)
    puts : (c : Cell) (n : ℕ) (k : Answer → Left) → writes None c → n < 2 ^ 64 → ((a : Answer) → Confined (k a)) →
        Confined (Asks (Puts OnDevice c n) k)
    updates : (op : CombineOp) (c : Cell) (n : ℕ) (k : Answer → Left) → writes (Some op) c → n < 2 ^ 64 →
        ((a : Answer) → Confined (k a)) → Confined (Asks (Updates OnDevice op c n) k)

  abbrev AllConfined : List Left → Type 0
  AllConfined [] = Unit {0}
  AllConfined (l ∷ rest) = Confined l × AllConfined rest

  all_confined : (s : Run) → Fine s → (turns : List Turn) → EachTurn (IsWithin (Allowed reads writes)) turns →
      AllConfined (map (turn_left s) turns)
  all_confined s f [] h = tt
  all_confined s f (t ∷ rest) h = (
    list_all reads writes OnDevice Confined loads puts updates t.body t.loops h.0.loops h.0.touches s Finished f
        (λ u g. ended u),
    all_confined s f rest h.1,
  )

  module _ (K : Left → Type 0)
      (keeps_load : (c : Cell) (k : Answer → Left) → reads None c → ((a : Answer) → a.number < 2 ^ 64 → K (k a)) →
      K (Asks (Load OnDevice c) k))
      (keeps_put : (c : Cell) (n : ℕ) (k : Answer → Left) → writes None c → n < 2 ^ 64 → ((a : Answer) → K (k a)) →
      K (Asks (Puts OnDevice c n) k))
      (keeps_update : (op : CombineOp) (c : Cell) (n : ℕ) (k : Answer → Left) → writes (Some op) c → n < 2 ^ 64 →
      ((a : Answer) → K (k a)) → K (Asks (Updates OnDevice op c n) k)) where
    then_keeps : (l after : Left) → Confined l → K after → K (then_left l after)
    then_keeps _ after (ended t) h = h
    then_keeps _ after (loads c k r each) h =
        keeps_load c (λ a. then_left (k a) after) r (λ a small. then_keeps (k a) after (each a small) h)
    then_keeps _ after (puts c n k w small each) h =
        keeps_put c n (λ a. then_left (k a) after) w small (λ a. then_keeps (k a) after (each a) h)
    then_keeps _ after (updates op c n k w small each) h =
        keeps_update op c n (λ a. then_left (k a) after) w small (λ a. then_keeps (k a) after (each a) h)

    in_order_keeps : (ls : List Left) (after : Left) → AllConfined ls → K after → K (in_order ls after)
    in_order_keeps [] after c h = h
    in_order_keeps (l ∷ ls) after c h = then_keeps l (in_order ls after) c.0 (in_order_keeps ls after c.1 h)

    act_keeps : (n : ℕ) (ls : List Left) (follow : List Left → Left) (other : Left) → AllConfined ls →
        ((ls' : List Left) → AllConfined ls' → K (follow ls')) → K other → K (act_of n ls follow other)
    act_keeps n [] follow other c again else = else
    act_keeps n (Finished t ∷ ls) follow other c again else =
        act_keeps n ls (λ ls. follow (Finished t ∷ ls)) other c.1 (λ ls' d. again (Finished t ∷ ls') (c.0, d)) else
    act_keeps zero (Asks r k ∷ ls) follow other c again else = first r k c.0
      where
        first : (r : _) (k : Answer → Left) → Confined (Asks r k) → K (Asks r (λ a. follow (k a ∷ ls)))
        first _ _ (loads d k h each) =
            keeps_load d (λ a. follow (k a ∷ ls)) h (λ a small. again (k a ∷ ls) (each a small, c.1))
        first _ _ (puts d m k h small each) =
            keeps_put d m (λ a. follow (k a ∷ ls)) h small (λ a. again (k a ∷ ls) (each a, c.1))
        first _ _ (updates op d m k h small each) =
            keeps_update op d m (λ a. follow (k a ∷ ls)) h small (λ a. again (k a ∷ ls) (each a, c.1))
    act_keeps (suc n) (Asks r k ∷ ls) follow other c again else =
        act_keeps n ls (λ ls. follow (Asks r k ∷ ls)) other c.1 (λ ls' d. again (Asks r k ∷ ls') (c.0, d)) else

    together_keeps : (order : List ℕ) (ls : List Left) (after : Left) → AllConfined ls → K after →
        K (together order ls after)
    together_keeps [] ls after c h = in_order_keeps ls after c h
    together_keeps (n ∷ order) ls after c h =
        act_keeps (n % waiting ls) ls (λ ls. together order ls after) (in_order ls after) c
        (λ ls' d. together_keeps order ls' after d h) (in_order_keeps ls after c h)

    pub kernel_keeps : (order : List ℕ) (r : Region) (loops : List ℕ) (s : Run) (k : Run → Left) → AllSmall loops →
        Every (Allowed reads writes) (touches_of r loops) → Fine s → ((t : Run) → Fine t → K (k t)) →
        K (kernel_left order (Some r) loops s k)
    kernel_keeps order r loops s k l h f next = go r.depth refl
      where
        go : (d : ℕ) → r.depth ≡ d → K (kernel_left order (Some r) loops s k)
        go zero e =
            rw (e, kernel_left)
            (list_all reads writes OnDevice K keeps_load keeps_put keeps_update r.body.items loops l h s k f next)
        go (suc d) e =
            rw (e, kernel_left)
            (together_keeps order (map (turn_left s) (turns_at (suc d) r.body.items loops)) (k s)
            (all_confined s f (turns_at (suc d) r.body.items loops)
            (turns_within (Allowed reads writes) (suc d) r.body.items loops l h)) (next s f))
