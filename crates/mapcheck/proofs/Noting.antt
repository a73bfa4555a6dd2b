-- What is noted at a place shows which items come before.
use Rattle.std.proofs.Common.{◌≡◌, ◌≢◌, ℕ, ◌<◌, Bool, false, Option, sym, subst, ◌⊎◌, ⊎_elim, arith}
use Rattle.std.specs.Prelude.{◌&&◌, nat_eq}
use Rattle.std.specs.HashMap.{get}
use Rattle.std.proofs.lemmas.Bool.{cases_eq, ne_eqb}
use Rattle.base.specs.declared.item.Cell.{Cell}
use Rattle.base.specs.declared.item.Loc.{Loc}
use Rattle.base.specs.Items.{Plan}
use Rattle.mapcheck.specs.declared.noted.Noted.{Noted}
use Rattle.mapcheck.specs.declared.rows.Row.{Row}
use Rattle.mapcheck.specs.Noted.{AreKept, AreSeen, IsClearAt, IsSeen, place_of, row_of}
use Rattle.mapcheck.specs.Rows as rows
use Rattle.mapcheck.specs.Rows.{width}
use Rattle.mapcheck.proofs.RowItems.{both_true}

pub place_inside : (c : Cell) → place_of c < width
place_inside c = omega arith

-- ---- in one row

pub seen_in_row : (plan : Plan) (old new : Noted) (o n : Option Row) (r j : ℕ) (w : Bool) (places : ℕ → Bool) (clear : Bool) →
    get nat_eq old.rows r ≡ o → get nat_eq new.rows r ≡ n →
    ((q : ℕ) → nat_eq r q ≡ false → get nat_eq new.rows q ≡ get nat_eq old.rows q) → rows.AreSeen plan o n j w places clear →
    AreSeen plan old new j w r places clear
seen_in_row plan old new o n r j w places is_clear before after others h = record {
  kept = λ q. ⊎_elim (λ (same : r ≡ q). subst (λ x. rows.AreKept plan (get nat_eq old.rows x) (get nat_eq new.rows x)) same here.kept)
      (λ (other : r ≢ q). λ p k v lt covers. subst (λ x. rows.Covers plan x p k v) (sym (others q (ne_eqb r q other))) covers)
      (cases_eq r q);
  shown = here.shown;
  clear = here.clear;
}
  where
    here : rows.AreSeen plan (get nat_eq old.rows r) (get nat_eq new.rows r) j w places is_clear
    here = subst (λ x. rows.AreSeen plan x (get nat_eq new.rows r) j w places is_clear) (sym before)
        (subst (λ x. rows.AreSeen plan o x j w places is_clear) (sym after) h)

-- ---- one after the other

clear_later : (plan : Plan) (old new : Noted) (j r p : ℕ) (w : Bool) → AreKept plan old new → p < width →
    IsClearAt plan new j w r p → IsClearAt plan old j w r p
clear_later plan old new j r p w kept lt h k writing either covers ne = h k writing either (kept r p k writing lt covers) ne

pub seen_none : (plan : Plan) (noted : Noted) (j : ℕ) (touched : Bool → Loc → Cell → Type 0) (clear : Bool) →
    ((w : Bool) (loc : Loc) (c : Cell) → touched w loc c → ⊥) → IsSeen plan noted noted j touched clear
seen_none plan noted j touched clear none = record {
  kept = λ r p k w lt covers. covers;
  shown = λ w loc c t. absurd (none w loc c t);
  clear = λ e w loc c t. absurd (none w loc c t);
}

pub seen_both : (plan : Plan) (old between new : Noted) (j : ℕ) (first second touched : Bool → Loc → Cell → Type 0) (a b : Bool) →
    IsSeen plan old between j first a → IsSeen plan between new j second b →
    ((w : Bool) (loc : Loc) (c : Cell) → touched w loc c → first w loc c ⊎ second w loc c) →
    IsSeen plan old new j touched (a && b)
seen_both plan old between new j first second touched a b f s either = record {
  kept = λ r p k w lt covers. s.kept r p k w lt (f.kept r p k w lt covers);
  shown = λ w loc c t. ⊎_elim
      (λ (x : first w loc c). s.kept (row_of loc c.array) (place_of c) j w (place_inside c) (f.shown w loc c x))
      (λ (x : second w loc c). s.shown w loc c x) (either w loc c t);
  clear = λ e w loc c t. ⊎_elim
      (λ (x : first w loc c). f.clear (both_true a b e).0 w loc c x)
      (λ (x : second w loc c). clear_later plan old between j (row_of loc c.array) (place_of c) w f.kept (place_inside c)
      (s.clear (both_true a b e).1 w loc c x)) (either w loc c t);
}

pub seen_less : (plan : Plan) (old new : Noted) (j : ℕ) (more less : Bool → Loc → Cell → Type 0) (a : Bool) →
    IsSeen plan old new j more a → ((w : Bool) (loc : Loc) (c : Cell) → less w loc c → more w loc c) →
    IsSeen plan old new j less a
seen_less plan old new j more less a h sub = record {
  kept = h.kept;
  shown = λ w loc c t. h.shown w loc c (sub w loc c t);
  clear = λ e w loc c t. h.clear e w loc c (sub w loc c t);
}
