-- Each exit of a target is of the block of its entry: the block has a count for each entry in it that is not yet left.
use Rattle.std.proofs.Common.{◌≡◌, ℕ, ◌+◌, ◌-◌, ◌≤◌, Bool, true, false, ◌==◌, List, [], ◌∷◌, ◌⊎◌, inl, inr, map, length, refl, sym, ap, ◌∙◌, subst, arith}
use Rattle.std.specs.Prelude.{filter, not, if◌then◌else◌}
use Rattle.std.proofs.lemmas.Bool.{cases_Bool, cond-true, cond-false, eqb-true}
use Rattle.base.proofs.Sections.{same_self}
use Rattle.base.specs.declared.item.MapItem.{MapItem}
use Rattle.base.specs.declared.item.MapKind.{MapKind}
use Rattle.base.specs.declared.item.MapKind.TheVariants.{To, From, ToFrom, Alloc, Release, Delete}
use Rattle.base.specs.declared.item.Section.{Section}
use Rattle.base.specs.Memory.{same_section}
use Rattle.base.specs.Map.{Block, Inside, blocks_after, counted, entry, exit, exit_count, presence, without}
use Rattle.base.specs.Actions.{rests}
use Rattle.mapwalk.specs.Acts.{entries_after, exit_of, exit_row}
use Rattle.mapwalk.specs.Laws.{NoDelete, TargetsKeepBlocks, block_named}
use Rattle.base.proofs.Moves.{is_there}
use Rattle.mapwalk.proofs.HeldBlocks.{entries_named, find_filtered, held, names}
use Rattle.mapwalk.proofs.CountedEntries.{AllHeld, Enough, Stays, enough_found, enough_less, enough_same, one_same, stays_counted, steps, uses}
use Rattle.base.proofs.Blocks.{meets, counted_other, counted_same}

-- the exits

count_less : (k : MapKind) (n : ℕ) → (k ≡ Delete → ⊥) → exit_count k n ≡ n - 1
count_less Delete n h = absurd (h refl)
count_less To n h = refl
count_less From n h = refl
count_less ToFrom n h = refl
count_less Alloc n h = refl
count_less Release n h = refl

abbrev left_with : List Block → Section → ℕ → List Block
left_with blocks t n = if n == 0 then without blocks t else map (counted t n) blocks

exit_name : (f : Bool) (m : MapItem) (blocks : List Block) (b : Block) → presence blocks m.section ≡ Inside b →
    (exit_of f m blocks).block ≡ b.section
exit_name f m blocks b e = rw e refl

exit_after : (m : MapItem) (blocks : List Block) (b : Block) → presence blocks m.section ≡ Inside b →
    blocks_after blocks (exit m blocks) ≡ left_with blocks b.section (exit_count m.kind b.count)
exit_after m blocks b e = rw e refl

enough_without : (f : Section → ℕ) (q : Block → Bool) (blocks : List Block) → Enough f blocks → Enough f (filter q blocks)
enough_without f q [] h = tt
enough_without f q (b ∷ blocks) h = go (enough_without f q blocks h.1) (cases_Bool (q b))
  where
    go : Enough f (filter q blocks) → (q b ≡ true) ⊎ (q b ≡ false) → Enough f (filter q (b ∷ blocks))
    go rest (inl t) = subst (Enough f) (sym (cond-true (q b) (b ∷ filter q blocks) (filter q blocks) t)) (h.0, rest)
    go rest (inr t) = subst (Enough f) (sym (cond-false (q b) (b ∷ filter q blocks) (filter q blocks) t)) rest

enough_left : (ts : List Section) (t : Section) (n : ℕ) → uses ts t ≤ n → (blocks : List Block) →
    Enough (uses (t ∷ ts)) blocks → Enough (uses ts) (map (counted t n) blocks)
enough_left ts t n k [] h = tt
enough_left ts t n k (b ∷ blocks) h = (go (cases_Bool (same_section b.section t)), enough_left ts t n k blocks h.1)
  where
    go : (same_section b.section t ≡ true) ⊎ (same_section b.section t ≡ false) →
        uses ts (counted t n b).section ≤ (counted t n b).count
    go (inl e) = subst (λ (x : Block). uses ts x.section ≤ x.count) (sym (counted_same t n b e)) k
    go (inr e) = subst (λ (x : Block). uses ts x.section ≤ x.count) (sym (counted_other t n b e))
        (let le = h.0 in omega (arith, le))

held_without : (maps : List MapItem) (ts : List Section) (t : Section) (blocks : List Block) → uses ts t ≡ 0 →
    AllHeld maps ts blocks → AllHeld maps ts (without blocks t)
held_without [] ts t blocks z h = tt
held_without (m ∷ maps) [] t blocks z h = absurd h
held_without (m ∷ maps) (u ∷ ts) t blocks z h = (
  record {
    count = h.0.count;
    is = find_filtered (meets m.section) (λ b. not (same_section b.section t)) blocks
        (record { section = u; count = h.0.count }) h.0.is (ap not (go (cases_Bool (same_section u t))));
    inside = h.0.inside;
  },
  held_without maps ts t blocks (omega (arith, z)) h.1,
)
  where
    go : (same_section u t ≡ true) ⊎ (same_section u t ≡ false) → same_section u t ≡ false
    go (inr e) = e
    go (inl e) = absurd (let o = one_same u t e in omega (arith, z, o))

held_stays : (maps : List MapItem) (ts : List Section) (blocks later : List Block) → Stays blocks later →
    AllHeld maps ts blocks → AllHeld maps ts later
held_stays [] ts blocks later k h = tt
held_stays (m ∷ maps) [] blocks later k h = absurd h
held_stays (m ∷ maps) (u ∷ ts) blocks later k h = (k m.section u h.0, held_stays maps ts blocks later k h.1)

record Left (maps : List MapItem) (ts : List Section) (later : List Block) : Type 0 where
  enough : Enough (uses ts) later
  here : AllHeld maps ts later

left_one : (maps : List MapItem) (ts : List Section) (t : Section) (n : ℕ) (blocks : List Block) → uses ts t ≤ n →
    Enough (uses (t ∷ ts)) blocks → AllHeld maps ts blocks → Left maps ts (left_with blocks t n)
left_one maps ts t n blocks k h held = go (cases_Bool (n == 0))
  where
    go : ((n == 0) ≡ true) ⊎ ((n == 0) ≡ false) → Left maps ts (left_with blocks t n)
    go (inl e) =
        let z : n ≡ 0 = eqb-true n 0 e in
        subst (Left maps ts) (sym (cond-true (n == 0) (without blocks t) (map (counted t n) blocks) e))
        (record {
          enough = enough_without (uses ts) (λ b. not (same_section b.section t)) blocks
              (enough_less (uses (t ∷ ts)) (uses ts) (λ s. omega arith) blocks h);
          here = held_without maps ts t blocks (omega (arith, z, k)) held;
        })
    go (inr e) =
        subst (Left maps ts) (sym (cond-false (n == 0) (without blocks t) (map (counted t n) blocks) e))
        (record {
          enough = enough_left ts t n k blocks h;
          here = held_stays maps ts blocks (map (counted t n) blocks) (stays_counted t n blocks) held;
        })

exits_named : (f : MapItem → Bool) (maps : List MapItem) (ts : List Section) (blocks : List Block) → NoDelete maps →
    length maps ≡ length ts → Enough (uses ts) blocks → AllHeld maps ts blocks →
    map block_named (exit_row f maps blocks) ≡ ts
exits_named f [] [] blocks keeps long h held = refl
exits_named f [] (t ∷ ts) blocks keeps long h held = absurd cc
exits_named f (m ∷ maps) [] blocks keeps long h held = absurd held
exits_named f (m ∷ maps) (t ∷ ts) blocks keeps long h held =
    let b : Block = record { section = t; count = held.0.count } in
    let at = is_there blocks m.section b held.0.is held.0.inside in
    let some : uses (t ∷ ts) t ≤ held.0.count = enough_found (uses (t ∷ ts)) (meets m.section) blocks b h held.0.is in
    let own = one_same t t (same_self t) in
    let less : uses ts t ≤ held.0.count - 1 = omega (arith, some, own) in
    let rest = left_one maps ts t (held.0.count - 1) blocks less h held.1 in
    let later : blocks_after blocks (exit m blocks) ≡ left_with blocks t (held.0.count - 1) =
    exit_after m blocks b at ∙ ap (left_with blocks t) (count_less m.kind held.0.count keeps.0) in
    (λ i. exit_name (f m) m blocks b at i
    ∷ (ap (λ bs. map block_named (exit_row f maps bs)) later
    ∙ exits_named f maps ts (left_with blocks t (held.0.count - 1)) keeps.1 (omega (arith, long)) rest.enough rest.here) i)

as_long : (maps : List MapItem) (blocks : List Block) → length maps ≡ length (names maps blocks)
as_long [] blocks = refl
as_long (m ∷ maps) blocks =
    let rest : length maps ≡ length (names maps (blocks_after blocks (entry m blocks))) =
    as_long maps (blocks_after blocks (entry m blocks)) in omega arith

nothing_yet : (blocks : List Block) → Enough (λ s. 0) blocks
nothing_yet [] = tt
nothing_yet (b ∷ blocks) = (omega arith, nothing_yet blocks)

-- each exit of a target is of the block of its entry
pub kept_blocks : TargetsKeepBlocks
kept_blocks maps blocks wide keeps part =
    let all = steps (λ s. 0) maps blocks wide (record { enough = nothing_yet blocks; none = λ s e. refl }) part in
    exits_named (rests blocks) maps (names maps blocks) (entries_after maps blocks) keeps (as_long maps blocks)
    (enough_same (λ s. 0 + uses (names maps blocks) s) (uses (names maps blocks)) (λ s. omega arith) (entries_after maps blocks)
    all.holds.enough) all.here
    ∙ sym (entries_named (rests blocks) maps blocks)
