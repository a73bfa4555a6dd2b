-- All items that may be opened: the marked ones, and what the host may open.
use Rattle.std.proofs.Common.{◌≡◌, inl, inr, ℕ, ◌+◌, ◌-◌, ◌<◌, ◌≤◌, Bool, true, false, List, [], ◌∷◌, ◌++◌, length, cond, refl, sym, ap, ◌∙◌, arith}
use Rattle.std.proofs.lemmas.Bool.{cases_lt, false_from_ne_true}
use Rattle.std.proofs.lemmas.List.{append-nil}
use Rattle.base.specs.declared.item.Event.TheVariants.{Open}
use Rattle.taskgraph.specs.Board.{Board, all_openings, allows}
use Rattle.taskgraph.specs.Marks.{all_marked, is_marked, those_from}
use Rattle.taskgraph.specs.Waiting.{IsGraphWith}
use Rattle.taskgraph.proofs.Choosable.{marked_task, task_marked}
use Rattle.taskgraph.proofs.Kept.{may_open}
use Rattle.taskgraph.proofs.Parts.{asked_at}
use Rattle.taskgraph.proofs.Those.{none, parts_at, same}

equal_by : (x y : Bool) → (x ≡ true → y ≡ true) → (y ≡ true → x ≡ true) → x ≡ y
equal_by true y h k = sym (h refl)
equal_by false y h k = sym (false_from_ne_true y (λ e. let bad : false ≡ true = k e in cc))

-- a marked one lies below the host's place
marked_below : (b : Board) (starts ends counts : List ℕ) (first : ℕ) (os rs : List Bool) (i : ℕ) →
    IsGraphWith b starts ends counts first os rs → is_marked rs i ≡ true → i < b.place
marked_below b starts ends counts first os rs i g e =
    let t = marked_task b starts ends counts first os rs i g e in
    let m = may_open b i t.1 in
    g.graph.counted.generated i (m.deferred (asked_at b i (λ w. w.deferred) m.facts m.is ∙ t.0))

-- and one that may be opened, and does not lie at the host's place, is marked
marked_else : (b : Board) (starts ends counts : List ℕ) (first : ℕ) (os rs : List Bool) (i : ℕ) →
    IsGraphWith b starts ends counts first os rs → (i ≡ b.place → ⊥) → is_marked rs i ≡ allows b (Open i)
marked_else b starts ends counts first os rs i g ne =
    equal_by (is_marked rs i) (allows b (Open i)) (λ e. (marked_task b starts ends counts first os rs i g e).1)
    (λ a. go a (may_open b i a).facts.deferred refl)
  where
    go : (a : allows b (Open i) ≡ true) → (d : Bool) → (may_open b i a).facts.deferred ≡ d → is_marked rs i ≡ true
    go a true d =
        let m = may_open b i a in
        task_marked b starts ends counts first os rs i g (sym (asked_at b i (λ w. w.deferred) m.facts m.is) ∙ d, a)
    go a false d = absurd (ne (sym ((may_open b i a).here d).0))

module _ (b : Board) (starts ends counts : List ℕ) (first : ℕ) (os rs : List Bool)
    (g : IsGraphWith b starts ends counts first os rs) where
  abbrev n : ℕ
  n = length b.tasks

  abbrev p : ℕ → Bool
  p i = allows b (Open i)

  abbrev r : ℕ → Bool
  r i = is_marked rs i

  abbrev host : List ℕ
  host = cond (p b.place) (b.place ∷ []) []

  marked_to : all_marked rs ≡ those_from r 0 n
  marked_to = ap (those_from r 0) g.ready.long

  unmarked : (i : ℕ) → b.place ≤ i → r i ≡ false
  unmarked i le = false_from_ne_true (r i)
      (λ e. let lt = marked_below b starts ends counts first os rs i g e in omega (arith, lt, le))

  else_same : (i : ℕ) → (i ≡ b.place → ⊥) → p i ≡ r i
  else_same i ne = sym (marked_else b starts ends counts first os rs i g ne)

  past_last : n ≤ b.place → all_openings b ≡ all_marked rs ++ host
  past_last le =
      let no : p b.place ≡ false = false_from_ne_true (p b.place)
      (λ a. let inside = (may_open b b.place a).inside in omega (arith, inside, le)) in
      same p r 0 n (λ i _ lt. else_same i (λ e. omega (arith, e, lt, le)))
      ∙ sym marked_to ∙ sym (append-nil (all_marked rs))
      ∙ ap (λ x. all_marked rs ++ cond x (b.place ∷ []) []) (sym no)

  at_item : b.place < n → all_openings b ≡ all_marked rs ++ host
  at_item lt =
      let k = b.place in
      let rest = n - (k + 1) in
      let whole : n ≡ k + (1 + rest) = omega arith in
      let front : those_from p 0 k ≡ those_from r 0 k = same p r 0 k (λ i _ l. else_same i (λ e. omega (arith, e, l))) in
      let after : those_from p (k + 1) rest ≡ [] =
      same p r (k + 1) rest (λ i le _. else_same i (λ e. omega (arith, e, le)))
      ∙ none r (k + 1) rest (λ i le _. unmarked i (omega (arith, le))) in
      let all : all_marked rs ≡ those_from r 0 k =
      marked_to ∙ ap (those_from r 0) whole ∙ parts_at r 0 k (1 + rest) k (omega arith)
      ∙ ap (λ l. those_from r 0 k ++ l) (none r k (1 + rest) (λ i le _. unmarked i le)) ∙ append-nil (those_from r 0 k) in
      ap (those_from p 0) whole ∙ parts_at p 0 k (1 + rest) k (omega arith)
      ∙ ap (λ l. those_from p 0 k ++ l) (parts_at p k 1 rest (k + 1) refl ∙ ap (λ l. host ++ l) after ∙ append-nil host)
      ∙ ap (λ l. l ++ host) (front ∙ sym all)

  pub openings : all_openings b ≡ all_marked rs ++ cond (allows b (Open b.place)) (b.place ∷ []) []
  openings = elim (cases_lt b.place n) [ inl lt ↦ at_item lt | inr le ↦ past_last le ]
