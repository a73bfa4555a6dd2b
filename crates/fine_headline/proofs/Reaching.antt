-- A region done access by access, with nothing in between, does what the region does on what it saw at first.
use Rattle.std.proofs.Common.{◌≡◌, ℕ, zero, suc, ◌+◌, ◌%◌, List, [], ◌∷◌, ◌++◌, Option, Some, None, refl, ap, ◌∙◌, subst}
use Rattle.std.specs.Prelude.{not, option_map, option_and_then, slice_index}
use Rattle.std.proofs.lemmas.Option.{same_Some, none-some}
use Rattle.base.specs.declared.item.Cell.{Cell}
use Rattle.base.specs.declared.tree.ArrayId.{ArrayId}
use Rattle.base.specs.declared.tree.CombineOp.{CombineOp}
use Rattle.base.specs.declared.tree.Expr.{Expr}
use Rattle.base.specs.declared.tree.Expr.TheVariants.{Number, Scalar, LoopName, Cell', Unary', Binary', And', Or', Shift', Divide'}
use Rattle.base.specs.declared.tree.Source.{Source}
use Rattle.base.specs.declared.tree.Source.TheVariants.{Value, Read}
use Rattle.base.specs.declared.tree.Stmt.{Stmt, Row_of-Stmt, end_of-Stmt, more_of-Stmt}
use Rattle.base.specs.declared.tree.Stmt.TheVariants.{Declare, Assign, Store, Combine, Print, Block', Loop', If'}
use Rattle.base.specs.Memory.{View, Scalars, Stores}
use Rattle.base.specs.Value.{value, combined, modulus, flag, is_zero, unary, binary, shifted, divided, on_one, on_both, and_of, or_of}
use Rattle.base.specs.Meaning.{Run, seen, names_in, read_next, source_of, updated_by, set_scalar, stored, printed, choose, turn, turns_of, run_stmt, run_row, run_list, assigned as assign}
use Rattle.base.specs.Map.{Memories, Fill}
use Rattle.fine_machine.specs.Left.{Side, assigned, Request, Answer, Left, Asks, expr_left, source_left, stmt_left, row_left, list_left}
use Rattle.fine_machine.specs.Action.{loaded, act}
use Rattle.fine_machine.specs.Left.{Load, Store as Puts, Combine as Updates, turns_left as turns_after}

-- what is left of an item comes, with nothing in between, to what is then left
pub data Reaches (lengths : List ℕ) (fill : Fill) : Left → Memories → Left → Memories → Type 0 where
  there : (l : Left) (m : Memories) → Reaches lengths fill l m l m
  next : (r : Request) (k : Answer → Left) (answer : Answer) (m n : Memories) (l : Left) (o : Memories) →
      act lengths fill r m ≡ Some (answer, n) → Reaches lengths fill (k answer) n l o →
      Reaches lengths fill (Asks r k) m l o

pub on_from : (lengths : List ℕ) (fill : Fill) (l : Left) (m : Memories) (l' : Left) (m' : Memories) (l'' : Left)
    (m'' : Memories) → Reaches lengths fill l m l' m' → Reaches lengths fill l' m' l'' m'' → Reaches lengths fill l m
    l'' m''
on_from lengths fill _ _ _ _ l'' m'' (there l m) h = h
on_from lengths fill _ _ _ _ l'' m'' (next r k answer m n l o e more) h =
    next r k answer m n l'' m'' e (on_from lengths fill (k answer) n l o l'' m'' more h)

-- Where an option is known.

pub then_parts : {A B : Type 0} (f : A → Option B) (o : Option A) (y : B) → option_and_then f o ≡ Some y →
    (x : A) × (o ≡ Some x) × (f x ≡ Some y)
then_parts f None y e = absurd (none-some y e)
then_parts f (Some x) y e = (x, refl, e)

pub map_parts : {A B : Type 0} (f : A → B) (o : Option A) (y : B) → option_map f o ≡ Some y →
    (x : A) × (o ≡ Some x) × (f x ≡ y)
map_parts f None y e = absurd (none-some y e)
map_parts f (Some x) y e = (x, refl, same_Some (f x) y e)

one_parts : (f : ℕ → ℕ) (o : Option ℕ) (y : ℕ) → on_one f o ≡ Some y → (x : ℕ) × (o ≡ Some x) × (f x ≡ y)
one_parts f None y e = absurd (none-some y e)
one_parts f (Some x) y e = (x, refl, same_Some (f x) y e)

both_parts : (f : ℕ → ℕ → ℕ) (o p : Option ℕ) (y : ℕ) → on_both f o p ≡ Some y →
    (a : ℕ) × (b : ℕ) × (o ≡ Some a) × (p ≡ Some b) × (f a b ≡ y)
both_parts f None p y e = absurd (none-some y e)
both_parts f (Some a) None y e = absurd (none-some y e)
both_parts f (Some a) (Some b) y e = (a, b, refl, refl, same_Some (f a b) y e)

-- the region with its stores in the memory itself
abbrev pub bare : Run → Run
bare s = record { scalars = s.scalars; stores = []; input = s.input; printed = s.printed }

module _ (lengths : List ℕ) (fill : Fill) (side : Side) (view : View) (mem : Stores → Memories)
    (look : (stores : Stores) (c : Cell) (n : ℕ) → seen view stores c ≡ Some n → act lengths fill (Load side c)
    (mem stores) ≡ Some (loaded n, mem stores))
    (put : (stores : Stores) (c : Cell) (n old : ℕ) → view c ≡ Some old → act lengths fill (Puts side c n)
    (mem stores) ≡ Some (loaded 0, mem (stores ++ (c, n) ∷ [])))
    (update : (stores : Stores) (op : CombineOp) (c : Cell) (n old : ℕ) → seen view stores c ≡ Some old → act lengths
    fill (Updates side op c n) (mem stores) ≡ Some (loaded 0, mem (stores ++ (c, combined op old n) ∷ []))) where
  abbrev To : Left → Memories → Left → Memories → Type 0
  To l m l' m' = Reaches lengths fill l m l' m'

  landing : (l : Left) (m : Memories) (k : ℕ → Left) (x v : ℕ) → x ≡ v → To l m (k x) m → To l m (k v) m
  landing l m k x v e h = subst (λ y. To l m (k y) m) e h

  expr_reaches : (e : Expr) (loops : List ℕ) (scalars : Scalars) (stores : Stores) (k : ℕ → Left) (v : ℕ) →
      value e (record { scalars = scalars; loops = loops; cells = seen view stores }) ≡ Some v →
      To (expr_left e side loops scalars k) (mem stores) (k v) (mem stores)
  expr_reaches (Number n) loops scalars stores k v h =
      landing (k (n % modulus)) (mem stores) k (n % modulus) v (same_Some (n % modulus) v h)
      (there (k (n % modulus)) (mem stores))
  expr_reaches (Scalar x) loops scalars stores k v h =
      landing (k (scalars x.0)) (mem stores) k (scalars x.0) v (same_Some (scalars x.0) v h)
      (there (k (scalars x.0)) (mem stores))
  expr_reaches (LoopName level) loops scalars stores k v h =
      landing (k (slice_index loops level)) (mem stores) k (slice_index loops level) v
      (same_Some (slice_index loops level) v h) (there (k (slice_index loops level)) (mem stores))
  expr_reaches (Cell' a place p e) loops scalars stores k v h =
      let q = then_parts (λ i. seen view stores (record { array = a; index = i }))
      (value e (record { scalars = scalars; loops = loops; cells = seen view stores })) v h in
      let ask : ℕ → Left = (λ i. Asks (Load side (record { array = a; index = i })) (λ r. k r.number)) in
      on_from lengths fill (expr_left e side loops scalars ask) (mem stores) (ask q.0) (mem stores) (k v) (mem stores)
      (expr_reaches e loops scalars stores ask q.0 q.1)
      (next (Load side (record { array = a; index = q.0 })) (λ r. k r.number) (loaded v) (mem stores) (mem stores) (k v)
      (mem stores) (look stores (record { array = a; index = q.0 }) v q.2) (there (k v) (mem stores)))
  expr_reaches (Unary' op p e) loops scalars stores k v h =
      let q = one_parts (unary op) (value e (record { scalars = scalars; loops = loops; cells = seen view stores })) v
      h in
      landing (expr_left e side loops scalars (λ m. k (unary op m))) (mem stores) k (unary op q.0) v q.2
      (expr_reaches e loops scalars stores (λ m. k (unary op m)) q.0 q.1)
  expr_reaches (Binary' op p e q f) loops scalars stores k v h =
      let c = both_parts (binary op) (value e (record { scalars = scalars; loops = loops; cells = seen view stores }))
      (value f (record { scalars = scalars; loops = loops; cells = seen view stores })) v h in
      let later : ℕ → Left = (λ m. expr_left f side loops scalars (λ n. k (binary op m n))) in
      landing (expr_left e side loops scalars later) (mem stores) k (binary op c.0 c.1) v c.4
      (on_from lengths fill (expr_left e side loops scalars later) (mem stores) (later c.0) (mem stores)
      (k (binary op c.0 c.1)) (mem stores)
      (expr_reaches e loops scalars stores later c.0 c.2)
      (expr_reaches f loops scalars stores (λ n. k (binary op c.0 n)) c.1 c.3))
  expr_reaches (And' p e q f) loops scalars stores k v h =
      go (value e (record { scalars = scalars; loops = loops; cells = seen view stores })) refl h
      (λ m is. expr_reaches e loops scalars stores later m is)
      (λ n is. expr_reaches f loops scalars stores (λ n. k (flag (not (is_zero n)))) n is)
    where
      later : ℕ → Left
      later m = elim m [ zero ↦ k 0 | suc m' ↦ expr_left f side loops scalars (λ n. k (flag (not (is_zero n)))) ]

      go : (o : Option ℕ) → value e (record { scalars = scalars; loops = loops; cells = seen view stores }) ≡ o →
          and_of o (value f (record { scalars = scalars; loops = loops; cells = seen view stores })) ≡ Some v →
          ((m : ℕ) → value e (record { scalars = scalars; loops = loops; cells = seen view stores }) ≡ Some m → To
          (expr_left e side loops scalars (λ m. elim m [
            | zero ↦ k 0
            | suc m' ↦ expr_left f side loops scalars (λ n. k
                (flag (not (is_zero n))))
          ])) (mem stores)
          (elim m [ zero ↦ k 0 | suc m' ↦ expr_left f side loops scalars (λ n. k (flag (not (is_zero n)))) ])
          (mem stores)) →
          ((n : ℕ) → value f (record { scalars = scalars; loops = loops; cells = seen view stores }) ≡ Some n → To
          (expr_left f side loops scalars (λ n. k (flag (not (is_zero n))))) (mem stores) (k (flag (not (is_zero n))))
          (mem stores)) →
          To (expr_left e side loops scalars (λ m. elim m
          [ zero ↦ k 0 | suc m' ↦ expr_left f side loops scalars (λ n. k (flag (not (is_zero n)))) ])) (mem stores)
          (k v) (mem stores)
      go None is e first second = absurd (none-some v e)
      go (Some zero) is e first second = landing _ (mem stores) k 0 v (same_Some 0 v e) (first 0 is)
      go (Some (suc m')) is e first second =
          let c = one_parts (λ b. flag (not (is_zero b)))
          (value f (record { scalars = scalars; loops = loops; cells = seen view stores })) v e in
          landing _ (mem stores) k (flag (not (is_zero c.0))) v c.2
          (on_from lengths fill _ (mem stores) _ (mem stores) _ (mem stores) (first (suc m') is) (second c.0 c.1))
  expr_reaches (Or' p e q f) loops scalars stores k v h =
      go (value e (record { scalars = scalars; loops = loops; cells = seen view stores })) refl h
      (λ m is. expr_reaches e loops scalars stores later m is)
      (λ n is. expr_reaches f loops scalars stores (λ n. k (flag (not (is_zero n)))) n is)
    where
      later : ℕ → Left
      later m = elim m [ zero ↦ expr_left f side loops scalars (λ n. k (flag (not (is_zero n)))) | suc m' ↦ k 1 ]

      go : (o : Option ℕ) → value e (record { scalars = scalars; loops = loops; cells = seen view stores }) ≡ o →
          or_of o (value f (record { scalars = scalars; loops = loops; cells = seen view stores })) ≡ Some v →
          ((m : ℕ) → value e (record { scalars = scalars; loops = loops; cells = seen view stores }) ≡ Some m → To
          (expr_left e side loops scalars (λ m. elim m [
            | zero ↦ expr_left f side loops scalars (λ n. k (flag (not (is_zero n))))
            | suc m' ↦ k 1
          ])) (mem stores)
          (elim m [ zero ↦ expr_left f side loops scalars (λ n. k (flag (not (is_zero n)))) | suc m' ↦ k 1 ])
          (mem stores)) →
          ((n : ℕ) → value f (record { scalars = scalars; loops = loops; cells = seen view stores }) ≡ Some n → To
          (expr_left f side loops scalars (λ n. k (flag (not (is_zero n))))) (mem stores) (k (flag (not (is_zero n))))
          (mem stores)) →
          To (expr_left e side loops scalars (λ m. elim m
          [ zero ↦ expr_left f side loops scalars (λ n. k (flag (not (is_zero n)))) | suc m' ↦ k 1 ])) (mem stores)
          (k v) (mem stores)
      go None is e first second = absurd (none-some v e)
      go (Some (suc m')) is e first second = landing _ (mem stores) k 1 v (same_Some 1 v e) (first (suc m') is)
      go (Some zero) is e first second =
          let c = one_parts (λ b. flag (not (is_zero b)))
          (value f (record { scalars = scalars; loops = loops; cells = seen view stores })) v e in
          landing _ (mem stores) k (flag (not (is_zero c.0))) v c.2
          (on_from lengths fill _ (mem stores) _ (mem stores) _ (mem stores) (first 0 is) (second c.0 c.1))
  expr_reaches (Shift' op p e n) loops scalars stores k v h =
      let q = one_parts (λ a. shifted op a n.count)
      (value e (record { scalars = scalars; loops = loops; cells = seen view stores })) v h in
      landing (expr_left e side loops scalars (λ m. k (shifted op m n.count))) (mem stores) k
      (shifted op q.0 n.count) v q.2 (expr_reaches e loops scalars stores (λ m. k (shifted op m n.count)) q.0 q.1)
  expr_reaches (Divide' op p e n) loops scalars stores k v h =
      let q = one_parts (λ a. divided op a n.value)
      (value e (record { scalars = scalars; loops = loops; cells = seen view stores })) v h in
      landing (expr_left e side loops scalars (λ m. k (divided op m n.value))) (mem stores) k
      (divided op q.0 n.value) v q.2 (expr_reaches e loops scalars stores (λ m. k (divided op m n.value)) q.0 q.1)

  -- Statements.

  abbrev Done : Left → Run → Run → (Run → Left) → Type 0
  Done l s t k = Reaches lengths fill l (mem s.stores) (k (bare t)) (mem t.stores)

  read_bare : (scalars : Scalars) (stores : Stores) (input printed : List ℕ) (k : ℕ → Run → Left) →
      let s : Run = record { scalars = scalars; stores = stores; input = input; printed = printed } in
      Reaches lengths fill (k (read_next (bare s)).0 (read_next (bare s)).1) (mem stores)
      (k (read_next s).0 (bare (read_next s).1)) (mem (read_next s).1.stores)
  read_bare scalars stores [] printed k =
      there (k 0 (record { scalars = scalars; stores = []; input = []; printed = printed })) (mem stores)
  read_bare scalars stores (x ∷ rest) printed k =
      there (k x (record { scalars = scalars; stores = []; input = rest; printed = printed })) (mem stores)

  source_reaches : (src : Source) (loops : List ℕ) (s : Run) (k : ℕ → Run → Left) (r : ℕ × Run) →
      source_of src view loops s ≡ Some r →
      Reaches lengths fill (source_left src side loops (bare s) k) (mem s.stores) (k r.0 (bare r.1)) (mem r.1.stores)
  source_reaches (Value e) loops s k r h =
      let q = map_parts (λ v. (v, s)) (value e (names_in view loops s)) r h in
      subst (λ (r : ℕ × Run). Reaches lengths fill (source_left (Value e) side loops (bare s) k) (mem s.stores)
      (k r.0 (bare r.1)) (mem r.1.stores)) q.2
      (expr_reaches e loops s.scalars s.stores (λ n. k n (bare s)) q.0 q.1)
  source_reaches Read loops s k r h =
      subst (λ (r : ℕ × Run). Reaches lengths fill (source_left Read side loops (bare s) k) (mem s.stores)
      (k r.0 (bare r.1)) (mem r.1.stores)) (same_Some (read_next s) r h)
      (read_bare s.scalars s.stores s.input s.printed k)

  assign_reaches : (x : ℕ) (src : Source) (loops : List ℕ) (s t : Run) (k : Run → Left) →
      assign x (source_of src view loops s) ≡ Some t →
      Done (source_left src side loops (bare s) (λ n u. k (assigned x n u))) s t k
  assign_reaches x src loops s t k h =
      let q = map_parts (λ (r : ℕ × Run). record (r.1) { scalars = set_scalar x r.0 r.1.scalars })
      (source_of src view loops s) t h in
      subst (λ (t : Run). Reaches lengths fill (source_left src side loops (bare s) (λ n u. k (assigned x n u)))
      (mem s.stores) (k (bare t)) (mem t.stores)) q.2
      (source_reaches src loops s (λ n u. k (assigned x n u)) q.0 q.1)

  turns_reach : (f : ℕ → Run → Option Run) (body : ℕ → Run → (Run → Left) → Left) →
      ((v : ℕ) (s t : Run) (k : Run → Left) → f v s ≡ Some t → Done (body v (bare s) k) s t k) →
      (n v step : ℕ) (s t : Run) (k : Run → Left) → turn n v step f s ≡ Some t → Done
      (turns_after n v step body (bare s) k) s t k
  turns_reach f body each zero v step s t k h =
      subst (λ (t : Run). Reaches lengths fill (k (bare s)) (mem s.stores) (k (bare t)) (mem t.stores))
      (same_Some s t h) (there (k (bare s)) (mem s.stores))
  turns_reach f body each (suc n) v step s t k h =
      go (f v s) refl h (λ u g. turns_reach f body each n (v + step) step u t k g)
    where
      go : (o : Option Run) → f v s ≡ o → elim o [ None ↦ None | Some u ↦ turn n (v + step) step f u ] ≡ Some t →
          ((u : Run) → turn n (v + step) step f u ≡ Some t → Done
          (turns_after n (v + step) step body (bare u) k) u t k) →
          Done (body v (bare s) (λ u. turns_after n (v + step) step body u k)) s t k
      go None is g again = absurd (none-some t g)
      go (Some u) is g again =
          on_from lengths fill _ (mem s.stores) (turns_after n (v + step) step body (bare u) k) (mem u.stores)
          (k (bare t)) (mem t.stores) (each v s u (λ u. turns_after n (v + step) step body u k) is) (again u g)

  if_reaches : (c : Expr) (loops : List ℕ) (s t : Run) (k : Run → Left) (first second : Left) (f g : Run → Option Run) →
      choose (value c (names_in view loops s)) f g s ≡ Some t →
      (f s ≡ Some t → Done first s t k) → (g s ≡ Some t → Done second s t k) → Done
      (expr_left c side loops s.scalars (λ n. elim n [ zero ↦ second | suc m ↦ first ])) s t k
  if_reaches c loops s t k first second f g h one two =
      go (value c (names_in view loops s)) refl h
      (λ n is. expr_reaches c loops s.scalars s.stores (λ n. elim n [ zero ↦ second | suc m ↦ first ]) n is)
    where
      go : (o : Option ℕ) → value c (names_in view loops s) ≡ o → choose o f g s ≡ Some t →
          ((n : ℕ) → value c (names_in view loops s) ≡ Some n → Reaches lengths fill
          (expr_left c side loops s.scalars (λ n. elim n [ zero ↦ second | suc m ↦ first ])) (mem s.stores)
          (elim n [ zero ↦ second | suc m ↦ first ]) (mem s.stores)) →
          Done (expr_left c side loops s.scalars (λ n. elim n [ zero ↦ second | suc m ↦ first ])) s t k
      go None is e reached = absurd (none-some t e)
      go (Some zero) is e reached =
          on_from lengths fill _ (mem s.stores) second (mem s.stores) (k (bare t)) (mem t.stores) (reached 0 is) (two e)
      go (Some (suc m)) is e reached =
          on_from lengths fill _ (mem s.stores) first (mem s.stores) (k (bare t)) (mem t.stores) (reached (suc m) is)
          (one e)

  abbrev pushed : Run → Cell → ℕ → Run
  pushed s c n = record s { stores = s.stores ++ (c, n) ∷ [] }

  -- what a commuting update stores
  record Updates_to (op : CombineOp) (x : Expr) (c : Cell) (loops : List ℕ) (s t : Run) : Type 0 where
    old : ℕ
    number : ℕ
    was : seen view s.stores c ≡ Some old
    is : value x (names_in view loops s) ≡ Some number
    end : pushed s c (combined op old number) ≡ t

  updates_to : (op : CombineOp) (x : Expr) (c : Cell) (loops : List ℕ) (s t : Run) →
      stored view c (updated_by op x c view loops s) ≡ Some t → Updates_to op x c loops s t
  updates_to op x c loops s t h =
      let q = then_parts (λ (r : ℕ × Run). option_map (λ old. pushed r.1 c r.0) (view c))
      (updated_by op x c view loops s) t h in
      let o = map_parts (λ old. pushed q.0.1 c q.0.0) (view c) t q.2 in
      let u = map_parts (λ n. (n, s)) (on_both (combined op) (seen view s.stores c) (value x (names_in view loops s)))
      q.0 q.1 in
      let b = both_parts (combined op) (seen view s.stores c) (value x (names_in view loops s)) u.0 u.1 in
      record {
        old = b.0;
        number = b.1;
        was = b.2;
        is = b.3;
        end = ap (pushed s c) b.4 ∙ (ap (λ (r : ℕ × Run). pushed r.1 c r.0) u.2 ∙ o.2);
      }

  update_reaches : (op : CombineOp) (a : ArrayId) (e x : Expr) (loops : List ℕ) (s t : Run) (k : Run → Left) →
      option_and_then (λ i. let c : Cell = record { array = a; index = i } in stored view c
      (updated_by op x c view loops s)) (value e (names_in view loops s)) ≡ Some t →
      Done (expr_left e side loops s.scalars (λ i. expr_left x side loops s.scalars
      (λ n. Asks (Updates side op (record { array = a; index = i }) n) (λ r. k (bare s))))) s t k
  update_reaches op a e x loops s t k h =
      let p = then_parts (λ i. let c : Cell = record { array = a; index = i } in stored view c
      (updated_by op x c view loops s)) (value e (names_in view loops s)) t h in
      go p.0 p.1 (updates_to op x (record { array = a; index = p.0 }) loops s t p.2)
    where
      last : ℕ → ℕ → Left
      last i n = Asks (Updates side op (record { array = a; index = i }) n) (λ r. k (bare s))

      first : ℕ → Left
      first i = expr_left x side loops s.scalars (last i)

      go : (i : ℕ) → value e (names_in view loops s) ≡ Some i →
          Updates_to op x (record { array = a; index = i }) loops s t →
          Done (expr_left e side loops s.scalars first) s t k
      go i is u =
          let c : Cell = record { array = a; index = i } in
          let end : Run = pushed s c (combined op u.old u.number) in
          subst (λ (t : Run). Reaches lengths fill (expr_left e side loops s.scalars first) (mem s.stores)
          (k (bare t)) (mem t.stores)) u.end
          (on_from lengths fill (expr_left e side loops s.scalars first) (mem s.stores) (first i) (mem s.stores)
          (k (bare s)) (mem end.stores)
          (expr_reaches e loops s.scalars s.stores first i is)
          (on_from lengths fill (first i) (mem s.stores) (last i u.number) (mem s.stores) (k (bare s)) (mem end.stores)
          (expr_reaches x loops s.scalars s.stores (last i) u.number u.is)
          (next (Updates side op c u.number) (λ r. k (bare s)) (loaded 0) (mem s.stores) (mem end.stores) (k (bare s))
          (mem end.stores) (update s.stores op c u.number u.old u.was) (there (k (bare s)) (mem end.stores)))))

  mutual
    stmt_reaches : (st : Stmt) (loops : List ℕ) (s t : Run) (k : Run → Left) → run_stmt st view loops s ≡ Some t →
        Done (stmt_left st side loops (bare s) k) s t k
    stmt_reaches (Declare x src) loops s t k h = assign_reaches x.0 src loops s t k h
    stmt_reaches (Assign x src) loops s t k h = assign_reaches x.0 src loops s t k h
    stmt_reaches (Store a place e src) loops s t k h =
        let p = then_parts (λ i. stored view (record { array = a; index = i }) (source_of src view loops s))
        (value e (names_in view loops s)) t h in
        let c : Cell = record { array = a; index = p.0 } in
        let q = then_parts (λ (r : ℕ × Run). option_map (λ old. record (r.1) { stores = r.1.stores ++ (c, r.0) ∷ [] })
        (view c)) (source_of src view loops s) t p.2 in
        let r : ℕ × Run = q.0 in
        let o = map_parts (λ old. record (r.1) { stores = r.1.stores ++ (c, r.0) ∷ [] }) (view c) t q.2 in
        let first : ℕ → Left = (λ i. source_left src side loops (bare s)
        (λ n u. Asks (Puts side (record { array = a; index = i }) n) (λ x. k u))) in
        let second : ℕ → Run → Left = (λ n u. Asks (Puts side c n) (λ x. k u)) in
        subst (λ (t : Run). Reaches lengths fill (expr_left e side loops s.scalars first) (mem s.stores) (k (bare t))
        (mem t.stores)) o.2
        (on_from lengths fill (expr_left e side loops s.scalars first) (mem s.stores) (first p.0) (mem s.stores)
        (k (bare r.1)) (mem (r.1.stores ++ (c, r.0) ∷ []))
        (expr_reaches e loops s.scalars s.stores first p.0 p.1)
        (on_from lengths fill (first p.0) (mem s.stores) (second r.0 (bare r.1)) (mem r.1.stores) (k (bare r.1))
        (mem (r.1.stores ++ (c, r.0) ∷ []))
        (source_reaches src loops s second r q.1)
        (next (Puts side c r.0) (λ x. k (bare r.1)) (loaded 0) (mem r.1.stores) (mem (r.1.stores ++ (c, r.0) ∷ []))
        (k (bare r.1)) (mem (r.1.stores ++ (c, r.0) ∷ [])) (put r.1.stores c r.0 o.0 o.1)
        (there (k (bare r.1)) (mem (r.1.stores ++ (c, r.0) ∷ []))))))
    stmt_reaches (Combine op a place e x) loops s t k h = update_reaches op a e x loops s t k h
    stmt_reaches (Print e) loops s t k h =
        let q = map_parts (printed s) (value e (names_in view loops s)) t h in
        subst (λ (t : Run). Reaches lengths fill (expr_left e side loops s.scalars (λ n. k (printed (bare s) n)))
        (mem s.stores) (k (bare t)) (mem t.stores)) q.2
        (expr_reaches e loops s.scalars s.stores (λ n. k (printed (bare s) n)) q.0 q.1)
    stmt_reaches (Block' shape all) loops s t k h = row_reaches all loops s t k h
    stmt_reaches (Loop' b shape all) loops s t k h =
        turns_reach (λ v. run_row all view (loops ++ v ∷ [])) (λ v. row_left all side (loops ++ v ∷ []))
        (λ v s t k g. row_reaches all (loops ++ v ∷ []) s t k g) (turns_of b) b.first b.step s t k h
    stmt_reaches (If' c shape all shape' all') loops s t k h =
        if_reaches c loops s t k (row_left all side loops (bare s) k) (row_left all' side loops (bare s) k)
        (run_row all view loops) (run_row all' view loops) h (λ g. row_reaches all loops s t k g)
        (λ g. row_reaches all' loops s t k g)

    row_reaches : {m : _} (row : Row_of-Stmt m) (loops : List ℕ) (s t : Run) (k : Run → Left) →
        run_row row view loops s ≡ Some t → Done (row_left row side loops (bare s) k) s t k
    row_reaches end_of-Stmt loops s t k h =
        subst (λ (t : Run). Reaches lengths fill (k (bare s)) (mem s.stores) (k (bare t)) (mem t.stores))
        (same_Some s t h) (there (k (bare s)) (mem s.stores))
    row_reaches (more_of-Stmt first rest) loops s t k h =
        let q = then_parts (run_row rest view loops) (run_stmt first view loops s) t h in
        on_from lengths fill (stmt_left first side loops (bare s) (λ u. row_left rest side loops u k)) (mem s.stores)
        (row_left rest side loops (bare q.0) k) (mem q.0.stores) (k (bare t)) (mem t.stores)
        (stmt_reaches first loops s q.0 (λ u. row_left rest side loops u k) q.1) (row_reaches rest loops q.0 t k q.2)

  pub list_reaches : (all : List Stmt) (loops : List ℕ) (s t : Run) (k : Run → Left) →
      run_list all view loops s ≡ Some t → Done (list_left all side loops (bare s) k) s t k
  list_reaches [] loops s t k h =
      subst (λ (t : Run). Reaches lengths fill (k (bare s)) (mem s.stores) (k (bare t)) (mem t.stores))
      (same_Some s t h) (there (k (bare s)) (mem s.stores))
  list_reaches (first ∷ rest) loops s t k h =
      let q = then_parts (run_list rest view loops) (run_stmt first view loops s) t h in
      on_from lengths fill (stmt_left first side loops (bare s) (λ u. list_left rest side loops u k)) (mem s.stores)
      (list_left rest side loops (bare q.0) k) (mem q.0.stores) (k (bare t)) (mem t.stores)
      (stmt_reaches first loops s q.0 (λ u. list_left rest side loops u k) q.1) (list_reaches rest loops q.0 t k q.2)
