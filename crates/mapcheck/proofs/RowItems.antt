-- What is noted in a row shows which items come before.
use Rattle.std.proofs.Common.{◌≡◌, ◌≢◌, ℕ, ◌<◌, Bool, true, false, refl, sym, ◌∙◌, subst, Option, Some, None, inl, inr, ◌⊎◌, ⊎_elim}
use Rattle.std.specs.Prelude.{◌||◌, ◌&&◌}
use Rattle.std.proofs.lemmas.Bool.{cases_eq}
use Rattle.base.specs.Items.{Plan}
use Rattle.base.specs.Order.{Before, through}
use Rattle.mapcheck.specs.declared.rows.Row.{Row}
use Rattle.mapcheck.specs.Rows.{AreSeen, Covers, IsClearAt, width}
use Rattle.mapcheck.specs.Segments.{has}

-- all that were noted at the place are before item j, but for itself
abbrev pub AreBefore : Plan → (ℕ → Bool) → ℕ → Type 0
AreBefore plan has j = (m : ℕ) → has m ≡ true → m ≢ j → Before plan m j

through_writer : (plan : Plan) (row : Row) (j p k m : ℕ) → AreBefore plan (has row.writes width p) j →
    has row.writes width p m ≡ true → (k ≡ m) ⊎ Before plan k m → k ≢ j → Before plan k j
through_writer plan row j p k m writes there (inl same) ne =
    subst (λ i. Before plan i j) (sym same) (writes m there (λ e. ne (same ∙ e)))
through_writer plan row j p k m writes there (inr earlier) ne =
    ⊎_elim (λ (e : m ≡ j). subst (λ i. Before plan k i) e earlier)
    (λ (other : m ≡ j → ⊥). through k m j earlier (writes m there other)) (cases_eq m j)

not_read : (b : Bool) → b ≡ false → (b || false) ≡ true → ⊥
not_read true e f = cc
not_read false e f = cc

-- a read comes after the writes that show
pub clear_read : (plan : Plan) (row : Row) (j p : ℕ) → AreBefore plan (has row.writes width p) j →
    IsClearAt plan (Some row) j false p
clear_read plan row j p writes k writing either (inl read) ne = absurd (not_read writing read.0 either)
clear_read plan row j p writes k writing either (inr write) ne =
    through_writer plan row j p k write.0 writes write.1 write.2 ne

-- and a write after the reads as well
pub clear_write : (plan : Plan) (row : Row) (j p : ℕ) → AreBefore plan (has row.writes width p) j →
    AreBefore plan (has row.reads width p) j → IsClearAt plan (Some row) j true p
clear_write plan row j p writes reads k writing either (inl read) ne = reads k read.1 ne
clear_write plan row j p writes reads k writing either (inr write) ne =
    through_writer plan row j p k write.0 writes write.1 write.2 ne

-- ---- what is kept

pub kept_at : (plan : Plan) (old new : Row) (p k : ℕ) (w : Bool) →
    ((m : ℕ) → has old.reads width p m ≡ true → has new.reads width p m ≡ true) →
    ((m : ℕ) → has old.writes width p m ≡ true → has new.writes width p m ≡ true) → Covers plan (Some old) p k w → Covers plan (Some new) p k w
kept_at plan old new p k w reads writes (inl read) = inl (read.0, reads k read.1)
kept_at plan old new p k w reads writes (inr write) = inr (write.0, writes write.0 write.1, write.2)

-- at a place that an item writes which comes after all that show there, only itself is needed
either_kind : (w : Bool) → (w || true) ≡ true
either_kind true = refl
either_kind false = refl

pub replaced : (plan : Plan) (old new : Row) (j p k : ℕ) (w : Bool) → IsClearAt plan (Some old) j true p →
    has new.writes width p j ≡ true → Covers plan (Some old) p k w → Covers plan (Some new) p k w
replaced plan old new j p k w clear there covers =
    ⊎_elim (λ (same : k ≡ j). inr (j, there, inl same))
    (λ (other : k ≡ j → ⊥). inr (j, there, inr (clear k w (either_kind w) covers other))) (cases_eq k j)

pub both_true : (a b : Bool) → (a && b) ≡ true → (a ≡ true) × (b ≡ true)
both_true true true e = (refl, refl)
both_true true false e = absurd cc
both_true false b e = absurd cc

-- a write, and what it replaces where it comes after all that show at its places
pub written : (plan : Plan) (old new : Row) (j : ℕ) (places : ℕ → Bool) (clear : Bool) →
    (clear ≡ true → (p : ℕ) → places p ≡ true → IsClearAt plan (Some old) j true p) →
    ((p m : ℕ) → p < width → (clear && places p) ≡ false → has old.reads width p m ≡ true → has new.reads width p m ≡ true) →
    ((p m : ℕ) → p < width → (clear && places p) ≡ false → has old.writes width p m ≡ true → has new.writes width p m ≡ true) →
    ((p : ℕ) → p < width → places p ≡ true → has new.writes width p j ≡ true) → AreSeen plan (Some old) (Some new) j true places clear
written plan old new j places is_clear clear reads writes there = record {
  kept = λ p k w lt covers. go p k w lt covers (is_clear && places p) refl;
  shown = λ p lt here. inr (j, there p lt here, inl refl);
  clear = λ e p lt here. clear e p here;
}
  where
    go : (p k : ℕ) (w : Bool) → p < width → Covers plan (Some old) p k w → (b : Bool) → (is_clear && places p) ≡ b → Covers plan (Some new) p k w
    go p k w lt covers true e =
        let both = both_true is_clear (places p) e in
        replaced plan old new j p k w (clear both.0 p both.1) (there p lt both.1) covers
    go p k w lt covers false e = kept_at plan old new p k w (λ m h. reads p m lt e h) (λ m h. writes p m lt e h) covers

-- a read
pub just_read : (plan : Plan) (old new : Row) (j : ℕ) (places : ℕ → Bool) (clear : Bool) →
    (clear ≡ true → (p : ℕ) → places p ≡ true → IsClearAt plan (Some old) j false p) →
    ((p m : ℕ) → has old.reads width p m ≡ true → has new.reads width p m ≡ true) →
    ((p m : ℕ) → has old.writes width p m ≡ true → has new.writes width p m ≡ true) →
    ((p : ℕ) → p < width → places p ≡ true → has new.reads width p j ≡ true) → AreSeen plan (Some old) (Some new) j false places clear
just_read plan old new j places is_clear clear reads writes there = record {
  kept = λ p k w lt covers. kept_at plan old new p k w (reads p) (writes p) covers;
  shown = λ p lt here. inl (refl, there p lt here);
  clear = λ e p lt here. clear e p here;
}

-- where there was no row, nothing showed
pub seen_first : (plan : Plan) (empty : Row) (new : Option Row) (j : ℕ) (w : Bool) (places : ℕ → Bool) (clear : Bool) →
    AreSeen plan (Some empty) new j w places clear → AreSeen plan None new j w places clear
seen_first plan empty new j w places clear h = record {
  kept = λ p k w lt covers. absurd covers;
  shown = h.shown;
  clear = λ e p lt here k writing either covers. absurd covers;
}
