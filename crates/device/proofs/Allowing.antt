-- Which events are allowed.
use Rattle.std.proofs.Common.{◌≡◌, ◌⊎◌, inl, inr, ◌+◌, ◌-◌, ◌<◌, ◌≤◌, ℕ, zero, suc, Bool, true, false, List, [], ◌∷◌, ◌++◌, map, length, refl, sym, ap, ◌∙◌, arith}
use Rattle.std.specs.Prelude.{cond, filter}
use Rattle.std.specs.List.{range_with_len}
use Rattle.std.proofs.lemmas.List.FromFn.{filter_of_map_range_with_len_more}
use Rattle.std.proofs.Common.{append_assoc, append-nil, zero-add}
use Rattle.base.specs.declared.item.Event.{Event}
use Rattle.base.specs.declared.item.Event.TheVariants as event
use Rattle.base.specs.Items.{Plan}
use Rattle.base.specs.Machine.{State, all_enabled, enabled}
use Rattle.taskgraph.specs.Board.{Board, allows}

pub none_allowed : (events : List Event) (p : Event → Bool) → ((e : Event) → p e ≡ true → ⊥) → filter p events ≡ []
none_allowed [] p h = refl
none_allowed (e ∷ es) p h = go (p e) refl (none_allowed es p h)
  where
    go : (v : Bool) → p e ≡ v → filter p es ≡ [] → cond v (e ∷ filter p es) (filter p es) ≡ []
    go true k rest = absurd (h e k)
    go false k rest = rest

-- the events of which some may happen next
abbrev pub candidates : Plan → State → List Event
candidates plan s =
    let all = range_with_len 0 (length plan.items) in
    map event.Close all ++ (map event.Open all ++ (event.Gen s.place ∷ event.Wait s.place ∷ event.End ∷ []))

pub none_next : (plan : Plan) (s : State) → ((e : Event) → enabled plan s e ≡ true → ⊥) → all_enabled plan s ≡ []
none_next plan s h = none_allowed (candidates plan s) (enabled plan s) h

pub never : (v : Bool) → (v ≡ true → ⊥) → false ≡ v
never true h = absurd (h refl)
never false h = refl

-- one more number of a list
pub more_allowed : (b : Board) (f : ℕ → Event) (old now new : List Event) (i : ℕ) →
    new ≡ now ++ cond (allows b (f i)) (f i ∷ []) [] → now ≡ old ++ filter (allows b) (map f (range_with_len 0 i)) →
    new ≡ old ++ filter (allows b) (map f (range_with_len 0 (i + 1)))
more_allowed b f old now new i h k =
    h ∙ ap (λ es. es ++ cond (allows b (f i)) (f i ∷ []) []) k ∙ append_assoc old _ _
    ∙ ap (λ es. old ++ es) (sym (filter_of_map_range_with_len_more (allows b) f 0 i i (zero-add i)))

-- numbers that give no event
pub none_more : (b : Board) (f : ℕ → Event) (n d : ℕ) → ((k : ℕ) → n ≤ k → k < n + d → allows b (f k) ≡ false) →
    filter (allows b) (map f (range_with_len 0 (n + d))) ≡ filter (allows b) (map f (range_with_len 0 n))
none_more b f n zero h =
    let same : n + 0 ≡ n = omega arith in ap (λ m. filter (allows b) (map f (range_with_len 0 m))) same
none_more b f n (suc d) h =
    let same : n + suc d ≡ n + d + 1 = omega arith in
    let none : allows b (f (n + d)) ≡ false = h (n + d) (omega arith) (omega arith) in
    ap (λ m. filter (allows b) (map f (range_with_len 0 m))) same
    ∙ filter_of_map_range_with_len_more (allows b) f 0 (n + d) (n + d) (zero-add (n + d))
    ∙ ap (λ v. filter (allows b) (map f (range_with_len 0 (n + d))) ++ cond v (f (n + d) ∷ []) []) none
    ∙ append-nil (filter (allows b) (map f (range_with_len 0 (n + d))))
    ∙ none_more b f n d (λ k le lt. h k le (omega (arith, lt)))

pub none_below : (b : Board) (f : ℕ → Event) (n : ℕ) (old : List Event) → ((k : ℕ) → k < n → allows b (f k) ≡ false) →
    old ≡ old ++ filter (allows b) (map f (range_with_len 0 n))
none_below b f n old h =
    let same : 0 + n ≡ n = omega arith in
    sym (append-nil old) ∙ ap (λ es. old ++ es)
    (sym (sym (ap (λ m. filter (allows b) (map f (range_with_len 0 m))) same)
    ∙ none_more b f 0 n (λ k le lt. h k (omega (arith, lt)))))

pub none_above : (b : Board) (f : ℕ → Event) (n count : ℕ) (old now : List Event) → n ≤ count →
    ((k : ℕ) → n ≤ k → k < count → allows b (f k) ≡ false) →
    now ≡ old ++ filter (allows b) (map f (range_with_len 0 n)) →
    now ≡ old ++ filter (allows b) (map f (range_with_len 0 count))
none_above b f n count old now le h e =
    let whole : n + (count - n) ≡ count = omega (arith, le) in
    e ∙ ap (λ es. old ++ es) (sym (sym (ap (λ m. filter (allows b) (map f (range_with_len 0 m))) whole)
    ∙ none_more b f n (count - n) (λ k from lt. h k from (omega (arith, lt, whole)))))

-- where the items that may be looked at begin, they have not ended
pub started : (place count end first : ℕ) → (place < count) ⊎ (count ≤ place) → (place < count → place < end) →
    (count ≤ place → end ≡ count) → first ≤ place → first ≤ count → first ≤ end
started place count end first (inl lt) from all h k = let past = from lt in omega (arith, past, h)
started place count end first (inr le) from all h k = let same = all le in omega (arith, same, k)
