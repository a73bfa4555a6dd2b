-- Lists of blocks, and what they stand for.
use Rattle.std.proofs.Common.{◌≡◌, ◌∙◌, ℕ, Bool, true, false, List, [], ◌∷◌, Option, Some, None, map, find, filter, refl, sym, ap, cond, option_map}
use Rattle.std.specs.Prelude.{not, if◌then◌else◌}
use Rattle.base.specs.declared.item.Section.{Section}
use Rattle.base.specs.Map.{Block, Presence, Absent, Inside, InPart, presence, without}
use Rattle.base.specs.Memory.{is_inside, overlaps, same_section}
use Rattle.maps.specs.declared.blocks.Block.{Block as Kept}
use Rattle.maps.specs.Maps.{count_in}
use Rattle.maps.specs.Shown.{block_of}

module _ {X Y : Type 0} (f : X → Y) (p : Y → Bool) where
  find_mapped : (xs : List X) → find p (map f xs) ≡ option_map f (find (λ x. p (f x)) xs)
  find_mapped [] = refl
  find_mapped (x ∷ xs) = go (p (f x)) (find_mapped xs)
    where
      go : (b : Bool) → find p (map f xs) ≡ option_map f (find (λ y. p (f y)) xs) →
          cond b (Some (f x)) (find p (map f xs)) ≡ option_map f (cond b (Some x) (find (λ y. p (f y)) xs))
      go true rest = refl
      go false rest = rest

  filter_mapped : (xs : List X) → filter p (map f xs) ≡ map f (filter (λ x. p (f x)) xs)
  filter_mapped [] = refl
  filter_mapped (x ∷ xs) = go (p (f x)) (filter_mapped xs)
    where
      go : (b : Bool) → filter p (map f xs) ≡ map f (filter (λ y. p (f y)) xs) →
          cond b (f x ∷ filter p (map f xs)) (filter p (map f xs))
          ≡ map f (cond b (x ∷ filter (λ y. p (f y)) xs) (filter (λ y. p (f y)) xs))
      go true rest = ap (λ ys. f x ∷ ys) rest
      go false rest = rest

-- where a section lies, by the first block that shares a cell with it
abbrev by_first : Section → Option Block → Presence
by_first s None = Absent
by_first s (Some b) = if is_inside s b.section then Inside b else InPart

by_first_is : (bs : List Block) (s : Section) (o : Option Block) → find (λ b. overlaps b.section s) bs ≡ o →
    presence bs s ≡ by_first s o
by_first_is bs s None e = rw e refl
by_first_is bs s (Some b) e = rw e refl

first_is : (bs : List Kept) (s : Section) (o : Option Kept) → o ≡ find (λ b. overlaps b.section s) bs →
    presence (map block_of bs) s ≡ by_first s (option_map block_of o)
first_is bs s o e =
    by_first_is (map block_of bs) s (option_map block_of o) (find_mapped block_of (λ b. overlaps b.section s) bs
    ∙ ap (option_map block_of) (sym e))

pub absent_is : (bs : List Kept) (s : Section) → None ≡ find (λ b. overlaps b.section s) bs →
    Absent ≡ presence (map block_of bs) s
absent_is bs s e = sym (first_is bs s None e)

pub inside_is : (bs : List Kept) (s : Section) (b : Kept) → Some b ≡ find (λ x. overlaps x.section s) bs →
    is_inside s b.section ≡ true → Inside (block_of b) ≡ presence (map block_of bs) s
inside_is bs s b e h = sym (first_is bs s (Some b) e ∙ ap (λ t. if t then Inside (block_of b) else InPart) h)

pub part_is : (bs : List Kept) (s : Section) (b : Kept) → Some b ≡ find (λ x. overlaps x.section s) bs →
    is_inside s b.section ≡ false → InPart ≡ presence (map block_of bs) s
part_is bs s b e h = sym (first_is bs s (Some b) e ∙ ap (λ t. if t then Inside (block_of b) else InPart) h)

abbrev number_of : Option Block → ℕ
number_of None = 0
number_of (Some b) = b.count

pub count_is : (bs : List Kept) (s : Section) (o : Option Kept) → o ≡ find (λ b. same_section b.section s) bs →
    number_of (option_map block_of o) ≡ count_in (map block_of bs) s
count_is bs s o e =
    ap number_of (ap (option_map block_of) e ∙ sym (find_mapped block_of (λ b. same_section b.section s) bs))

pub without_is : (bs cs : List Kept) (s : Section) → cs ≡ filter (λ b. not (same_section b.section s)) bs →
    map block_of cs ≡ without (map block_of bs) s
without_is bs cs s e =
    ap (map block_of) e ∙ sym (filter_mapped block_of (λ b. not (same_section b.section s)) bs)
