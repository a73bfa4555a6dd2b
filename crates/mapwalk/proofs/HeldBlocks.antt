-- The first block that a section overlaps, after an entry or an exit.
use Rattle.std.proofs.Common.{◌≡◌, ℕ, ◌+◌, ◌<◌, ◌≤◌, Bool, true, false, ◌==◌, List, [], ◌∷◌, ◌++◌, ◌⊎◌, inl, inr, map, Option, Some, None, refl, sym, ap, ◌∙◌, arith, true≢false}
use Rattle.std.specs.Prelude.{find, filter, ◌&&◌, nat_le, option_map}
use Rattle.std.proofs.lemmas.Bool.{cases_Bool, cond-true, cond-false, and_from, eqb-true, eq-eqb, lt-ltb, leb-true, and_parts}
use Rattle.std.proofs.lemmas.Option.{same_Some}
use Rattle.base.specs.declared.item.MapItem.{MapItem}
use Rattle.base.specs.declared.item.Section.{Section}
use Rattle.base.specs.Memory.{end_of, is_inside, overlaps, same_section}
use Rattle.base.specs.Map.{Block, Presence, Absent, Inside, InPart, blocks_after, counted, entry, presence}
use Rattle.mapwalk.specs.Acts.{entry_of, entry_row}
use Rattle.mapwalk.specs.Laws.{block_named}
use Rattle.base.proofs.Blocks.{find_yes, find_no, meets}

-- the first block that a section overlaps
abbrev pub held : Section → List Block → Option Block
held s blocks = find (meets s) blocks

pub no_block : {P : Type 0} (b : Block) → ◌≡◌ {A = Option Block} None (Some b) → P
no_block b e = absurd cc

pub find_passes : (p : Block → Bool) (xs : List Block) (b : Block) → find p xs ≡ Some b → p b ≡ true
find_passes p [] b e = no_block b e
find_passes p (x ∷ xs) b e = go (find_passes p xs b) (cases_Bool (p x))
  where
    go : (find p xs ≡ Some b → p b ≡ true) → (p x ≡ true) ⊎ (p x ≡ false) → p b ≡ true
    go again (inl h) = ap p (sym (same_Some x b (sym (find_yes p x xs h) ∙ e))) ∙ h
    go again (inr h) = again (sym (find_no p x xs h) ∙ e)

-- what another test finds, where this one finds something that it lets pass
pub find_other : (p q : Block → Bool) (xs : List Block) (b : Block) → find p xs ≡ Some b → q b ≡ true → find q xs ≡ None → ⊥
find_other p q [] b e h none = no_block b e
find_other p q (x ∷ xs) b e h none =
    go (λ f g. find_other p q xs b f h g) (cases_Bool (q x)) (cases_Bool (p x))
  where
    go : (find p xs ≡ Some b → find q xs ≡ None → ⊥) → (q x ≡ true) ⊎ (q x ≡ false) → (p x ≡ true) ⊎ (p x ≡ false) → ⊥
    go again (inl t) k = no_block x (sym none ∙ find_yes q x xs t)
    go again (inr t) (inl k) =
        let is : x ≡ b = same_Some x b (sym (find_yes p x xs k) ∙ e) in true≢false (sym h ∙ ap q (sym is) ∙ t)
    go again (inr t) (inr k) = again (sym (find_no p x xs k) ∙ e) (sym (find_no q x xs t) ∙ none)

pub find_mapped : (p : Block → Bool) (f : Block → Block) → ((b : Block) → p (f b) ≡ p b) → (xs : List Block) →
    find p (map f xs) ≡ option_map f (find p xs)
find_mapped p f h [] = refl
find_mapped p f h (x ∷ xs) = go (find_mapped p f h xs) (cases_Bool (p x))
  where
    go : find p (map f xs) ≡ option_map f (find p xs) → (p x ≡ true) ⊎ (p x ≡ false) → find p (map f (x ∷ xs)) ≡ option_map f (find p (x ∷ xs))
    go again (inl t) = find_yes p (f x) (map f xs) (h x ∙ t) ∙ ap (option_map f) (sym (find_yes p x xs t))
    go again (inr t) = find_no p (f x) (map f xs) (h x ∙ t) ∙ again ∙ ap (option_map f) (sym (find_no p x xs t))

pub find_kept : (p : Block → Bool) (xs ys : List Block) (b : Block) → find p xs ≡ Some b → find p (xs ++ ys) ≡ Some b
find_kept p [] ys b e = no_block b e
find_kept p (x ∷ xs) ys b e = go (find_kept p xs ys b) (cases_Bool (p x))
  where
    go : (find p xs ≡ Some b → find p (xs ++ ys) ≡ Some b) → (p x ≡ true) ⊎ (p x ≡ false) → find p ((x ∷ xs) ++ ys) ≡ Some b
    go again (inl t) = find_yes p x (xs ++ ys) t ∙ (sym (find_yes p x xs t) ∙ e)
    go again (inr t) = find_no p x (xs ++ ys) t ∙ again (sym (find_no p x xs t) ∙ e)

pub find_added : (p : Block → Bool) (xs ys : List Block) → find p xs ≡ None → find p (xs ++ ys) ≡ find p ys
find_added p [] ys e = refl
find_added p (x ∷ xs) ys e = go (find_added p xs ys) (cases_Bool (p x))
  where
    go : (find p xs ≡ None → find p (xs ++ ys) ≡ find p ys) → (p x ≡ true) ⊎ (p x ≡ false) → find p ((x ∷ xs) ++ ys) ≡ find p ys
    go again (inl t) = no_block x (sym e ∙ find_yes p x xs t)
    go again (inr t) = find_no p x (xs ++ ys) t ∙ again (sym (find_no p x xs t) ∙ e)

pub find_filtered : (p q : Block → Bool) (xs : List Block) (b : Block) → find p xs ≡ Some b → q b ≡ true →
    find p (filter q xs) ≡ Some b
find_filtered p q [] b e h = no_block b e
find_filtered p q (x ∷ xs) b e h = go (λ f. find_filtered p q xs b f h) (cases_Bool (p x)) (cases_Bool (q x))
  where
    go : (find p xs ≡ Some b → find p (filter q xs) ≡ Some b) → (p x ≡ true) ⊎ (p x ≡ false) → (q x ≡ true) ⊎ (q x ≡ false) → find p (filter q (x ∷ xs)) ≡ Some b
    go again (inl t) (inl k) =
        ap (find p) (cond-true (q x) (x ∷ filter q xs) (filter q xs) k) ∙ find_yes p x (filter q xs) t
        ∙ (sym (find_yes p x xs t) ∙ e)
    go again (inl t) (inr k) =
        let is : x ≡ b = same_Some x b (sym (find_yes p x xs t) ∙ e) in absurd (true≢false (sym h ∙ ap q (sym is) ∙ k))
    go again (inr t) (inl k) =
        ap (find p) (cond-true (q x) (x ∷ filter q xs) (filter q xs) k) ∙ find_no p x (filter q xs) t
        ∙ again (sym (find_no p x xs t) ∙ e)
    go again (inr t) (inr k) =
        ap (find p) (cond-false (q x) (x ∷ filter q xs) (filter q xs) k)
        ∙ again (sym (find_no p x xs t) ∙ e)

-- sections

pub same_is : (s t : Section) → same_section s t ≡ true → s ≡ t
same_is s t h =
    let a = eqb-true s.array.0 t.array.0 (and_parts _ ((s.first == t.first) && (s.length == t.length)) h).0 in
    let rest = (and_parts (s.array.0 == t.array.0) _ h).1 in
    let f = eqb-true s.first t.first (and_parts _ (s.length == t.length) rest).0 in
    let l = eqb-true s.length t.length (and_parts (s.first == t.first) _ rest).1 in
    (λ i. record { array = record { 0 = a i }; first = f i; length = l i })

pub meets_itself : (s : Section) → 0 < s.length → overlaps s s ≡ true
meets_itself s h = and_from _ _ (eq-eqb s.array.0 s.array.0 refl)
    (and_from _ _ (lt-ltb s.first (end_of s) (omega arith)) (lt-ltb s.first (end_of s) (omega arith)))

-- a section in which one with a cell lies has a cell
pub has_length : (s t : Section) → 0 < t.length → is_inside t s ≡ true → 0 < s.length
has_length s t long i =
    let rest = (and_parts (t.array.0 == s.array.0) _ i).1 in
    let first : s.first ≤ t.first = leb-true s.first t.first (and_parts _ (nat_le (end_of t) (end_of s)) rest).0 in
    let end : end_of t ≤ end_of s = leb-true (end_of t) (end_of s) (and_parts (nat_le s.first t.first) _ rest).1 in
    omega arith

-- the block of an entry
abbrev pub name : MapItem → List Block → Section
name m blocks = (entry_of false m blocks).block

abbrev pub names : List MapItem → List Block → List Section
names [] blocks = []
names (m ∷ maps) blocks = name m blocks ∷ names maps (blocks_after blocks (entry m blocks))

pub after_absent : (m : MapItem) (blocks : List Block) → presence blocks m.section ≡ Absent → m.present ≡ false →
    blocks_after blocks (entry m blocks) ≡ blocks ++ record { section = m.section; count = 1 } ∷ []
after_absent m blocks e p = rw (e, p) refl

pub name_absent : (m : MapItem) (blocks : List Block) → presence blocks m.section ≡ Absent → m.present ≡ false →
    name m blocks ≡ m.section
name_absent m blocks e p = rw (e, p, name) refl

pub after_inside : (m : MapItem) (blocks : List Block) (b : Block) → presence blocks m.section ≡ Inside b →
    blocks_after blocks (entry m blocks) ≡ map (counted b.section (b.count + 1)) blocks
after_inside m blocks b e = rw e refl

pub name_inside : (m : MapItem) (blocks : List Block) (b : Block) → presence blocks m.section ≡ Inside b → name m blocks ≡ b.section
name_inside m blocks b e = rw (e, name) refl

pub entries_named : (f : MapItem → Bool) (maps : List MapItem) (blocks : List Block) →
    map block_named (entry_row f maps blocks) ≡ names maps blocks
entries_named f [] blocks = refl
entries_named f (m ∷ maps) blocks =
    (λ i. go (presence blocks m.section) refl i ∷ entries_named f maps (blocks_after blocks (entry m blocks)) i)
  where
    go : (p : Presence) → presence blocks m.section ≡ p → (entry_of (f m) m blocks).block ≡ name m blocks
    go Absent e = absent m.present refl
      where
        absent : (b : Bool) → m.present ≡ b → (entry_of (f m) m blocks).block ≡ name m blocks
        absent true p = rw (e, p, name) refl
        absent false p = rw (e, p, name) refl
    go (Inside b) e = rw (e, name) refl
    go InPart e = rw (e, name) refl

-- counted blocks

pub section_counted : (s : Section) (n : ℕ) (b : Block) → (counted s n b).section ≡ b.section
section_counted s n b = go (cases_Bool (same_section b.section s))
  where
    go : (same_section b.section s ≡ true) ⊎ (same_section b.section s ≡ false) → (counted s n b).section ≡ b.section
    go (inl e) =
        ap (λ (x : Block). x.section) (cond-true (same_section b.section s) (record { section = s; count = n }) b e)
        ∙ sym (same_is b.section s e)
    go (inr e) = ap (λ (x : Block). x.section) (cond-false (same_section b.section s) (record { section = s; count = n }) b e)

pub held_counted : (u s : Section) (n : ℕ) (blocks : List Block) →
    held u (map (counted s n) blocks) ≡ option_map (counted s n) (held u blocks)
held_counted u s n blocks = find_mapped (meets u) (counted s n) (λ b. ap (λ t. overlaps t u) (section_counted s n b)) blocks
