-- One more map item of those that enter, or that leave.
use Rattle.std.proofs.Common.{◌≡◌, ℕ, ◌+◌, ◌<◌, Bool, List, [], ◌∷◌, ◌++◌, length, drop, get_or, sym, ap, ap₂, ◌∙◌, append_assoc}
use Rattle.std.proofs.lemmas.List.{drop_more}
use Rattle.base.specs.declared.item.MapItem.{MapItem}
use Rattle.base.specs.Map.{Block, blocks_after, entry, exit}
use Rattle.mapwalk.specs.declared.rows.Acts.{Acts}
use Rattle.mapwalk.specs.declared.seen.Seen.{Seen}
use Rattle.mapwalk.specs.Acts.{entries_after, entry_of, entry_row, exit_of, exit_row, exits_after}
use Rattle.mapwalk.specs.Seen.{entry_mets, exit_mets, seen_all, seen_at}

module _ (maps : List MapItem) (i : ℕ) (d : MapItem) (h : i < length maps) (old new : List Block) where
  pub entry_row_step : (resting : MapItem → Bool) (row pushed all : List Acts) (acts : Acts) (rests : Bool) →
      row ++ entry_row resting (drop i maps) old ≡ all → pushed ≡ row ++ acts ∷ [] →
      acts ≡ entry_of rests (get_or maps i d) old → rests ≡ resting (get_or maps i d) →
      new ≡ blocks_after old (entry (get_or maps i d) old) → pushed ++ entry_row resting (drop (i + 1) maps) new ≡ all
  entry_row_step resting row pushed all acts rests inv pushed_is acts_is rests_is new_is =
      ap (λ p. p ++ entry_row resting (drop (i + 1) maps) new) pushed_is
      ∙ append_assoc row (acts ∷ []) (entry_row resting (drop (i + 1) maps) new)
      ∙ ap₂ (λ a n. row ++ a ∷ entry_row resting (drop (i + 1) maps) n)
      (acts_is ∙ ap (λ r. entry_of r (get_or maps i d) old) rests_is) new_is
      ∙ ap (λ ms. row ++ entry_row resting ms old) (sym (drop_more maps i d h))
      ∙ inv

  pub entries_step : (all : List Block) → entries_after (drop i maps) old ≡ all →
      new ≡ blocks_after old (entry (get_or maps i d) old) → entries_after (drop (i + 1) maps) new ≡ all
  entries_step all inv new_is =
      ap (entries_after (drop (i + 1) maps)) new_is ∙ ap (λ ms. entries_after ms old) (sym (drop_more maps i d h)) ∙ inv

  pub entry_seen_step : (seen noted all : Seen) (at : List Block) → seen_all (entry_mets (drop i maps) old) seen ≡ all →
      noted ≡ seen_at (get_or maps i d) at seen → at ≡ old →
      new ≡ blocks_after old (entry (get_or maps i d) old) → seen_all (entry_mets (drop (i + 1) maps) new) noted ≡ all
  entry_seen_step seen noted all at inv noted_is at_is new_is =
      ap₂ (λ s n. seen_all (entry_mets (drop (i + 1) maps) n) s)
      (noted_is ∙ ap (λ bs. seen_at (get_or maps i d) bs seen) at_is) new_is
      ∙ ap (λ ms. seen_all (entry_mets ms old) seen) (sym (drop_more maps i d h))
      ∙ inv

  pub exit_row_step : (resting : MapItem → Bool) (row pushed all : List Acts) (acts : Acts) (rests : Bool) →
      row ++ exit_row resting (drop i maps) old ≡ all → pushed ≡ row ++ acts ∷ [] →
      acts ≡ exit_of rests (get_or maps i d) old → rests ≡ resting (get_or maps i d) →
      new ≡ blocks_after old (exit (get_or maps i d) old) → pushed ++ exit_row resting (drop (i + 1) maps) new ≡ all
  exit_row_step resting row pushed all acts rests inv pushed_is acts_is rests_is new_is =
      ap (λ p. p ++ exit_row resting (drop (i + 1) maps) new) pushed_is
      ∙ append_assoc row (acts ∷ []) (exit_row resting (drop (i + 1) maps) new)
      ∙ ap₂ (λ a n. row ++ a ∷ exit_row resting (drop (i + 1) maps) n)
      (acts_is ∙ ap (λ r. exit_of r (get_or maps i d) old) rests_is) new_is
      ∙ ap (λ ms. row ++ exit_row resting ms old) (sym (drop_more maps i d h))
      ∙ inv

  pub exits_step : (all : List Block) → exits_after (drop i maps) old ≡ all →
      new ≡ blocks_after old (exit (get_or maps i d) old) → exits_after (drop (i + 1) maps) new ≡ all
  exits_step all inv new_is =
      ap (exits_after (drop (i + 1) maps)) new_is ∙ ap (λ ms. exits_after ms old) (sym (drop_more maps i d h)) ∙ inv

  pub exit_seen_step : (seen noted all : Seen) (at : List Block) → seen_all (exit_mets (drop i maps) old) seen ≡ all →
      noted ≡ seen_at (get_or maps i d) at seen → at ≡ old →
      new ≡ blocks_after old (exit (get_or maps i d) old) → seen_all (exit_mets (drop (i + 1) maps) new) noted ≡ all
  exit_seen_step seen noted all at inv noted_is at_is new_is =
      ap₂ (λ s n. seen_all (exit_mets (drop (i + 1) maps) n) s)
      (noted_is ∙ ap (λ bs. seen_at (get_or maps i d) bs seen) at_is) new_is
      ∙ ap (λ ms. seen_all (exit_mets ms old) seen) (sym (drop_more maps i d h))
      ∙ inv
