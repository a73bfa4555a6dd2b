-- Blocks of turns, one after another.
use Rattle.std.proofs.Common.{◌≡◌, ℕ, zero, suc, ◌+◌, ◌-◌, ◌<◌, ◌≤◌, Bool, List, Option, Some, None, refl, sym, ap, ap₂, ◌∙◌, arith, subst}
use mathlib.Core.Path.{fun_ext}
use Rattle.base.specs.declared.item.Cell.{Cell}
use Rattle.base.specs.declared.tree.Expr.{Expr}
use Rattle.base.specs.declared.tree.Stmt.{Stmt}
use Rattle.std.specs.Prelude.{slice_index}
use Rattle.base.specs.Memory.{View, Scalars}
use Rattle.base.specs.Value.{binary}
use Rattle.base.specs.Meaning.{Run, turn}
use Rattle.lanes.specs.Apart.{Set, assigned_in, Kept, Places, NamesPlaces, HavePlaces, in_block, Block, block_body, block_start}
use Rattle.lanes.specs.There.{BodyThere}
use Rattle.lanes.specs.Turned.{IsRun}
use Rattle.lanes.proofs.Blocks.{block_is_turns}
use Rattle.lanes.specs.Sums.{ended}
use Rattle.lanes.proofs.Sums.{sum_is_turns}
use Rattle.kernel.specs.Forms.{IsForm, IsFormOf, carried, form_block, statements, with_sum}
use Rattle.kernel.specs.Lanes.{begun_block, IsBlock}
use Rattle.kernel.specs.Offsets.{IsWithin, here_of, places_of}
use Rattle.kernel.specs.Loops.{stored_in, does, Stands, Begins, Ends}
use Rattle.kernel.specs.Rows.{Parts}
use Rattle.kernel.specs.declared.turns.Form.{Form}
use Rattle.kernel.specs.declared.turns.Sum.{Sum}
use Rattle.kernel.proofs.Looseness.{none_loose}
use Rattle.kernel.proofs.Sums.{once_loose}
use Rattle.kernel.proofs.Keeps.{form_keeps, names_kept, sum_own}
use Rattle.kernel.proofs.Offsets.{names_here, places_here}
use Rattle.kernel.proofs.Stepping.{there}

-- some turns, and those that are left
pub record Split (a b v : ℕ) (f : ℕ → Run → Option Run) (s t : Run) : Type 0 where
  pub mid : Run
  pub front : turn a v 1 f s ≡ Some mid
  pub back : turn b (v + a) 1 f mid ≡ Some t

pub turn_split : (a b n v : ℕ) (f : ℕ → Run → Option Run) (s t : Run) → n ≡ a + b → turn n v 1 f s ≡ Some t →
    Split a b v f s t
turn_split zero b n v f s t e h =
    let same : n ≡ b = omega (arith, e) in
    let at : v ≡ v + 0 = omega arith in
    record { mid = s; front = refl; back = ap₂ (λ m w. turn m w 1 f s) (sym same) (sym at) ∙ h }
turn_split (suc a) b zero v f s t e h = absurd (omega (arith, e))
turn_split (suc a) b (suc n) v f s t e h =
    go (f v s) refl (λ w k. turn_split a b n (v + 1) f w t (omega (arith, e)) k) h
  where
    go : (o : Option Run) → f v s ≡ o → ((w : Run) → turn n (v + 1) 1 f w ≡ Some t → Split a b (v + 1) f w t) →
        elim o as (λ x. Option Run) [ None ↦ None | Some u ↦ turn n (v + 1) 1 f u ] ≡ Some t → Split (suc a) b v f s t
    go None is again h = absurd cc
    go (Some w) is again h =
        let p = again w h in
        let at : v + 1 + a ≡ v + suc a = omega arith in
        record {
          mid = p.mid;
          front = ap (λ o. elim o as (λ x. Option Run) [ None ↦ None | Some u ↦ turn a (v + 1) 1 f u ]) is ∙ p.front;
          back = ap (λ w. turn b w 1 f p.mid) (sym at) ∙ p.back;
        }

-- what turns do in a form is what they do one after another
form_is_turns : (here : Expr → Bool) (at : Places) (body front : List Stmt) (sum : Option Sum) (outer : List ℕ) (view : View)
    (s t : Run) (v more : ℕ) → NamesPlaces here at (assigned_in body) s.scalars outer → HavePlaces (in_block v (suc more)) at →
    IsFormOf here body front sum → turn (suc more) v 1 (does view outer body) s ≡ Some t →
    BodyThere at (in_block v (suc more)) outer (with_sum front sum) (block_start view s)
    × IsRun view
    (carried sum s.scalars v (suc more) (block_body at (in_block v (suc more)) outer (with_sum front sum) (block_start view s)))
    (v + more) s t
form_is_turns here at body front None outer view s t v more named places h e =
    subst (λ (xs : List Stmt). BodyThere at (in_block v (suc more)) outer xs (block_start view s)
    × IsRun view (block_body at (in_block v (suc more)) outer xs (block_start view s)) (v + more) s t) (sym h.0)
    (block_is_turns body view here at outer (stored_in body) (assigned_in body) v more s t named places h.1.apart (none_loose body h.1.settled) e)
form_is_turns here at body front (Some q) outer view s t v more named places h e =
    let all = ended front q.scalar q.added.now in
    let named_all = subst (λ (own : Set). NamesPlaces here at own s.scalars outer) (sum_own body front q h.has.last h.has.whole) named in
    sum_is_turns (binary q.op) front q.scalar q.added.now h.has.last view here at outer (stored_in all) (assigned_in all) v more s t
    named_all places h.has.carries h.apart.apart (none_loose all h.apart.settled) (once_loose front q.scalar q.added.now h.once) h.once
    (sym (ap (λ (xs : List Stmt). turn (suc more) v 1 (does view outer xs) s) h.has.whole) ∙ e)

-- the same turns, one more at least, from where the rows stand
pub begun_there : (here : Expr → Bool) (f : Form) (body : List Stmt) (outer : List ℕ) (view : View) (s t : Run) (v count : ℕ)
    (scalars : List ℕ) (rows : List Parts) → 0 < count →
    NamesPlaces here (places_of f.offset) (assigned_in body) s.scalars outer → HavePlaces (in_block v count) (places_of f.offset) →
    IsFormOf here body f.front.now f.sum → Stands view s scalars rows → turn count v 1 (does view outer body) s ≡ Some t →
    BodyThere (places_of f.offset) (in_block v count) outer (statements f) (begun_block scalars rows)
    × IsRun view (form_block f outer v count (slice_index scalars) (begun_block scalars rows)) (v + (count - 1)) s t
begun_there here f body outer view s t v zero scalars rows some named places form h e = absurd (omega arith)
begun_there here f body outer view s t v (suc more) scalars rows some named places form h e =
    let at = places_of f.offset in
    let r = form_is_turns here at body f.front.now f.sum outer view s t v more named places form e in
    let last : v + more ≡ v + (suc more - 1) = omega arith in
    let same : block_start view s ≡ begun_block scalars rows =
    λ i. record { scalars = λ w. sym h.scalars i; cells = sym h.cells i; stored = sym h.stored i } in (
      subst (λ (b : Block). BodyThere at (in_block v (suc more)) outer (statements f) b) same r.0,
      subst (λ (g : Scalars). IsRun view (form_block f outer v (suc more) g (begun_block scalars rows)) (v + (suc more - 1)) s t) (sym h.scalars)
          (subst (λ (b : Block). IsRun view (form_block f outer v (suc more) s.scalars b) (v + (suc more - 1)) s t) same
          (subst (λ (w : ℕ). IsRun view (form_block f outer v (suc more) s.scalars (block_start view s)) w s t) last r.1)),
    )

-- where a block is left, its run stands
pub left_there : (view : View) (s t : Run) (b : Block) (last : ℕ) (scalars : List ℕ) (rows : List Parts) →
    IsBlock b last scalars rows → IsRun view b last s t → Stands view t scalars rows
left_there view s t b last scalars rows h r =
    record {
      scalars = h.scalars ∙ fun_ext (λ (x : ℕ). r.scalars x);
      cells = h.cells ∙ fun_ext (λ (c : Cell). r.cells c);
      stored = h.stored ∙ fun_ext (λ (c : Cell). r.stored c);
    }

-- what is left of the turns from v on
pub record Left (body : List Stmt) (outer : List ℕ) (view : View) (s t : Run) (v end : ℕ) (scalars : List ℕ) (rows : List Parts) : Type 0 where
  pub now : Run
  pub rest : turn (end - v) v 1 (does view outer body) now ≡ Some t
  pub stands : Stands view now scalars rows
  pub kept : Kept (assigned_in body) s.scalars now.scalars
  pub input : s.input ≡ now.input
  pub printed : s.printed ≡ now.printed

-- of each run that begins so
abbrev pub Carries : List Stmt → List ℕ → ℕ → ℕ → ℕ → List ℕ → List Parts → List ℕ → List Parts → Type 0
Carries body outer first end v scalars rows scalars' rows' =
    (view : View) (s t : Run) → Stands view s scalars rows →
    turn (end - first) first 1 (does view outer body) s ≡ Some t →
    Left body outer view s t v end scalars' rows'

pub carried_all : (body : List Stmt) (outer : List ℕ) (first end : ℕ) (scalars : List ℕ) (rows : List Parts) →
    Carries body outer first end first scalars rows scalars rows
carried_all body outer first end scalars rows view s t h e =
    record { now = s; rest = e; stands = h; kept = λ x o. refl; input = refl; printed = refl }

pub fits_more : (o : Option ℕ) (end v count : ℕ) → 0 < count → count ≤ end - v → IsWithin o end → IsWithin o (v + count)
fits_more o end v count some within fits = omega arith

module _ (f : Form) (body : List Stmt) (outer : List ℕ) (first end v count : ℕ) (some : 0 < count) (within : count ≤ end - v)
    (scalars : List ℕ) (rows : List Parts) (form : IsForm (slice_index scalars) outer body f) (fits : IsWithin f.offset end) where
  abbrev here : Expr → Bool
  here = here_of (assigned_in body) (slice_index scalars) outer f.offset

  first_block : (view : View) (s t : Run) → turn (end - v) v 1 (does view outer body) s ≡ Some t →
      Split count (end - (v + count)) v (does view outer body) s t
  first_block view s t e =
      turn_split count (end - (v + count)) (end - v) v (does view outer body) s t (omega arith) e

  -- where some turns were done, the next block names the same places
  named : (view : View) (s now : Run) → Stands view s scalars rows → Kept (assigned_in body) s.scalars now.scalars →
      NamesPlaces here (places_of f.offset) (assigned_in body) now.scalars outer
  named view s now h kept =
      names_kept here (places_of f.offset) (assigned_in body) (slice_index scalars) now.scalars outer
      (names_here (assigned_in body) (slice_index scalars) outer f.offset)
      (subst (λ (g : Scalars). Kept (assigned_in body) g now.scalars) (sym h.scalars) kept)

  places : HavePlaces (in_block v count) (places_of f.offset)
  places = places_here f.offset v count some (fits_more f.offset end v count some within fits)

  -- the next block has what it needs
  pub next_there : (scalars' : List ℕ) (rows' : List Parts) →
      Begins body outer first end scalars rows → Carries body outer first end v scalars rows scalars' rows' →
      BodyThere (places_of f.offset) (in_block v count) outer (statements f) (begun_block scalars' rows')
  next_there scalars' rows' h carried =
      let t = there (turn (end - first) first 1 (does h.0 outer body) h.1) h.3 in
      let l = carried h.0 h.1 t.0 h.2 t.1 in
      let p = first_block h.0 l.now t.0 l.rest in
      (begun_there here f body outer h.0 l.now p.mid v count scalars' rows' some (named h.0 h.1 l.now h.2 l.kept) places form
      l.stands p.front).0

  -- and fewer turns are left after it
  pub carried_on : (scalars' : List ℕ) (rows' : List Parts) (scalars'' : List ℕ) (rows'' : List Parts) →
      Carries body outer first end v scalars rows scalars' rows' →
      IsBlock (form_block f outer v count (slice_index scalars') (begun_block scalars' rows')) (v + (count - 1)) scalars'' rows'' →
      Carries body outer first end (v + count) scalars rows scalars'' rows''
  carried_on scalars' rows' scalars'' rows'' carried done view s t h e =
      let l = carried view s t h e in
      let p = first_block view l.now t l.rest in
      let b = (begun_there here f body outer view l.now p.mid v count scalars' rows' some (named view s l.now h l.kept) places form
      l.stands p.front).1 in
      let keeps = form_keeps here body f.front.now f.sum outer view form count v l.now p.mid p.front in
      record {
        now = p.mid;
        rest = p.back;
        stands = left_there view l.now p.mid _ (v + (count - 1)) scalars'' rows'' done b;
        kept = λ x o. keeps x o ∙ l.kept x o;
        input = l.input ∙ b.input;
        printed = l.printed ∙ b.printed;
      }

-- at the end nothing is left
pub carried_end : (body : List Stmt) (outer : List ℕ) (first end v : ℕ) (scalars : List ℕ) (rows : List Parts)
    (scalars' : List ℕ) (rows' : List Parts) → end ≤ v →
    Carries body outer first end v scalars rows scalars' rows' → Ends body outer first end scalars rows scalars' rows'
carried_end body outer first end v scalars rows scalars' rows' le carried view s t h e =
    let l = carried view s t h e in
    let none : end - v ≡ 0 = omega (arith, le) in
    let same : ◌≡◌ {A = Option Run} (Some l.now) (Some t) = sym (ap (λ n. turn n v 1 (does view outer body) l.now) none) ∙ l.rest in
    let is : l.now ≡ t = cc in (
      subst (λ (u : Run). Stands view u scalars' rows') is l.stands,
      l.input ∙ ap (λ (u : Run). u.input) is,
      l.printed ∙ ap (λ (u : Run). u.printed) is,
    )
