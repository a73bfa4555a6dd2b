-- Settled touches: nothing new is seen of them, now and whatever is seen besides.
use Rattle.std.proofs.Common.{◌≡◌, ℕ, zero, suc, ◌+◌, ◌<◌, ◌≤◌, Bool, true, false, List, [], ◌∷◌, ◌++◌, refl, sym, ap, ◌∙◌, subst, ⊎_elim, arith}
use Rattle.std.specs.Prelude.{◌&&◌, ◌||◌, not, cond}
use Rattle.std.proofs.lemmas.Bool.{and_parts, cases_lt, false≢true}
use Rattle.base.specs.declared.tree.Bounds.{Bounds}
use Rattle.base.specs.declared.item.Cell.{Cell}
use Rattle.base.specs.Interval.{is_single}
use Rattle.base.specs.Footprint.{Touch, leaves_array, turns_touch}
use Rattle.base.specs.Meaning.{turns_left}
use Rattle.base.proofs.LoopTurns.{one_turn_less, no_turn_left}
use Rattle.ranges.specs.Cells.{AreKnown, is_among}
use Rattle.ranges.specs.Seen.{Seen, after, after_touch}
use Rattle.ranges.specs.Settled.{AllSettled, IsSeen, IsSettled}
use Rattle.ranges.proofs.AllSeen.{beyond, touch_is, with_read, with_write}
use Rattle.ranges.proofs.Swaps.{staying}
use Rattle.ranges.proofs.Walked.{after_append}

added_again : (x a : Bool) → (a ≡ true → x ≡ true) → (x || a) ≡ x
added_again true a h = refl
added_again false true h = sym (h refl)
added_again false false h = refl

exposed_again : (e a u : Bool) → (a ≡ true → (e || u) ≡ true) → (e || (a && not u)) ≡ e
exposed_again true a u h = refl
exposed_again false true true h = refl
exposed_again false true false h = sym (h refl)
exposed_again false false u h = refl

-- each cell that was read is exposed or was surely written
abbrev pub Known : Seen → Type 0
Known s = AreKnown s.exposed s.read s.sure

pub noop : (lengths : List ℕ) (t : Touch) (s : Seen) → Known s → IsSettled lengths s t → after_touch lengths t s ≡ s
noop lengths t s known h = staying lengths t s h.stays ∙ go t.is_write h.seen
  where
    go : (w : Bool) → ((c : Cell) → is_among t.array t.cells c ≡ true → IsSeen w (t.certain && is_single t.cells) s c) →
        cond w (with_write t s) (with_read t s) ≡ s
    go true seen = λ i. record s {
      write = λ c. added_again (s.write c) (is_among t.array t.cells c) (λ e. (seen c e).0) i;
      sure = λ c. added_again (s.sure c) ((t.certain && is_single t.cells) && is_among t.array t.cells c)
          (λ e. let p = and_parts (t.certain && is_single t.cells) (is_among t.array t.cells c) e in (seen c p.1).1 p.0) i;
    }
    go false seen = λ i. record s {
      exposed = λ c. exposed_again (s.exposed c) (is_among t.array t.cells c) (s.sure c) (λ e. known c (seen c e)) i;
      read = λ c. added_again (s.read c) (is_among t.array t.cells c) (λ e. seen c e) i;
    }

pub all_noop : (lengths : List ℕ) (ts : List Touch) (s : Seen) → Known s → AllSettled lengths s ts → after lengths ts s ≡ s
all_noop lengths [] s known h = refl
all_noop lengths (t ∷ ts) s known h = ap (after lengths ts) (noop lengths t s known h.0) ∙ all_noop lengths ts s known h.1

-- ---- what was seen stays so

pub record Grows (s new : Seen) : Type 0 where
  pub read : (c : Cell) → s.read c ≡ true → new.read c ≡ true
  pub write : (c : Cell) → s.write c ≡ true → new.write c ≡ true
  pub sure : (c : Cell) → s.sure c ≡ true → new.sure c ≡ true
  pub known : Known s → Known new

more : (x a : Bool) → x ≡ true → (x || a) ≡ true
more true a h = refl
more false a h = absurd cc

known_write : (e r u k : Bool) → (r ≡ true → (e || u) ≡ true) → r ≡ true → (e || (u || k)) ≡ true
known_write true r u k h g = refl
known_write false r true k h g = refl
known_write false r false k h g = absurd (false≢true (h g))

known_read : (e r u a : Bool) → (r ≡ true → (e || u) ≡ true) → (r || a) ≡ true → ((e || (a && not u)) || u) ≡ true
known_read true r u a h g = refl
known_read false r true true h g = refl
known_read false r false true h g = refl
known_read false true u false h g = h refl
known_read false false u false h g = absurd cc

pub touch_grows : (lengths : List ℕ) (t : Touch) (s : Seen) → Grows s (after_touch lengths t s)
touch_grows lengths t s = subst (λ (x : Seen). Grows s x) (sym (touch_is lengths t s)) (go (leaves_array lengths t) t.is_write)
  where
    go : (d w : Bool) → Grows s (cond d (beyond t s) (cond w (with_write t s) (with_read t s)))
    go true w = record { read = λ c h. h; write = λ c h. h; sure = λ c h. h; known = λ h. h }
    go false true = record {
      read = λ c h. h;
      write = λ c h. more (s.write c) (is_among t.array t.cells c) h;
      sure = λ c h. more (s.sure c) ((t.certain && is_single t.cells) && is_among t.array t.cells c) h;
      known = λ h c. known_write (s.exposed c) (s.read c) (s.sure c)
          ((t.certain && is_single t.cells) && is_among t.array t.cells c) (h c);
    }
    go false false = record {
      read = λ c h. more (s.read c) (is_among t.array t.cells c) h;
      write = λ c h. h;
      sure = λ c h. h;
      known = λ h c. known_read (s.exposed c) (s.read c) (s.sure c) (is_among t.array t.cells c) (h c);
    }

pub grows_on : (s x y : Seen) → Grows s x → Grows x y → Grows s y
grows_on s x y g h = record {
  read = λ c e. h.read c (g.read c e);
  write = λ c e. h.write c (g.write c e);
  sure = λ c e. h.sure c (g.sure c e);
  known = λ k. h.known (g.known k);
}

pub grows_not : (s : Seen) → Grows s s
grows_not s = record { read = λ c h. h; write = λ c h. h; sure = λ c h. h; known = λ h. h }

pub after_grows : (lengths : List ℕ) (ts : List Touch) (s : Seen) → Grows s (after lengths ts s)
after_grows lengths [] s = grows_not s
after_grows lengths (t ∷ ts) s = grows_on s (after_touch lengths t s) (after lengths ts (after_touch lengths t s))
    (touch_grows lengths t s) (after_grows lengths ts (after_touch lengths t s))

pub settled_still : (lengths : List ℕ) (t : Touch) (s new : Seen) → Grows s new → IsSettled lengths s t → IsSettled lengths new t
settled_still lengths t s new g h = record { stays = h.stays; seen = λ c e. go t.is_write c (h.seen c e) }
  where
    go : (w : Bool) (c : Cell) → IsSeen w (t.certain && is_single t.cells) s c → IsSeen w (t.certain && is_single t.cells) new c
    go true c h = (g.write c h.0, λ e. g.sure c (h.1 e))
    go false c h = g.read c h

-- ---- lists of touches

pub both_settled : (lengths : List ℕ) (s : Seen) (ts us : List Touch) → AllSettled lengths s ts → AllSettled lengths s us →
    AllSettled lengths s (ts ++ us)
both_settled lengths s [] us h k = k
both_settled lengths s (t ∷ ts) us h k = (h.0, both_settled lengths s ts us h.1 k)

pub left_out : (lengths : List ℕ) (before behind : List Touch) (t : Touch) (s : Seen) → Known s → IsSettled lengths s t →
    after lengths (before ++ t ∷ behind) s ≡ after lengths (before ++ behind) s
left_out lengths before behind t s known h =
    let g = after_grows lengths before s in
    after_append lengths before (t ∷ behind) s
    ∙ ap (after lengths behind) (noop lengths t (after lengths before s) (g.known known)
    (settled_still lengths t s (after lengths before s) g h))
    ∙ sym (after_append lengths before behind s)

-- ---- turns

pub some_turn : (n v : ℕ) (b : Bounds) → suc n ≡ turns_left v b → v < b.end
some_turn n v b e = ⊎_elim (λ (lt : v < b.end). lt)
    (λ (le : b.end ≤ v). let z = no_turn_left v b le in absurd (none (e ∙ z)))
    (cases_lt v b.end)
  where
    none : suc n ≡ 0 → ⊥
    none h = omega (arith, h)

pub next_turns : (n v : ℕ) (b : Bounds) → suc n ≡ turns_left v b → n ≡ turns_left (v + b.step) b
next_turns n v b e = let o : suc n ≡ suc (turns_left (v + b.step) b) = e ∙ one_turn_less v b (some_turn n v b e) in omega (arith, o)

pub turns_settled : (lengths : List ℕ) (s : Seen) (b : Bounds) (f : ℕ → List Touch) (first n v : ℕ) →
    ((w : ℕ) → first ≤ w → w < b.end → AllSettled lengths s (f w)) →
    first ≤ v → n ≡ turns_left v b → AllSettled lengths s (turns_touch n v b.step f)
turns_settled lengths s b f first zero v h le e = tt
turns_settled lengths s b f first (suc n) v h le e =
    both_settled lengths s (f v) (turns_touch n (v + b.step) b.step f) (h v le (some_turn n v b e))
    (turns_settled lengths s b f first n (v + b.step) h (omega (arith, le)) (next_turns n v b e))

-- turns of which the same is seen
pub same_turns : (lengths : List ℕ) (s : Seen) (b : Bounds) (f g : ℕ → List Touch) (first n v : ℕ) (x : Seen) →
    ((w : ℕ) (y : Seen) → first ≤ w → w < b.end → Grows s y → after lengths (f w) y ≡ after lengths (g w) y) →
    first ≤ v → n ≡ turns_left v b → Grows s x →
    after lengths (turns_touch n v b.step f) x ≡ after lengths (turns_touch n v b.step g) x
same_turns lengths s b f g first zero v x h le e grows = refl
same_turns lengths s b f g first (suc n) v x h le e grows =
    after_append lengths (f v) (turns_touch n (v + b.step) b.step f) x
    ∙ ap (after lengths (turns_touch n (v + b.step) b.step f)) (h v x le (some_turn n v b e) grows)
    ∙ same_turns lengths s b f g first n (v + b.step) (after lengths (g v) x) h (omega (arith, le)) (next_turns n v b e)
    (grows_on s x (after lengths (g v) x) grows (after_grows lengths (g v) x))
    ∙ sym (after_append lengths (g v) (turns_touch n (v + b.step) b.step g) x)
