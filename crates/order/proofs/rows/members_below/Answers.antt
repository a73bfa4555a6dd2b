use Rattle.std.proofs.Common.{◌≡◌, ◌≤◌, ℕ, Option, sym, ap, ◌∙◌, subst, arith}
use Rattle.std.specs.Prelude.{◌&&◌, not, nat_le, if◌then◌else◌}
use Rattle.bits.specs.Sets.{IsFirstAt, has, is_from}
use Rattle.order.proofs.Members.{all_copied, cut, end_below, from_start, from_zero, none_below}
use Rattle.order.proofs.rows.members_below.Goals.{in-Some+then-first-place+in_ok-make_room, in-Some+else-first-place, in_default}
use Rattle.order.proofs.rows.members_below.Goals as goal

pub remove_range-requires-clause-start : goal.remove_range-requires-clause-start
remove_range-requires-clause-start c =
    let set = c.args.set.now in
    let low = from_start set c.in-Some.first (sym (from_zero (has set) c.in-Some.first) ∙ c.in-Some.ensures.0) in
    omega (arith, low, c.if-first-place.true)

pub make_room-requires : goal.make_room-requires
make_room-requires c =
    let set = c.args.set.now in
    let low : c.end-end.result ≤ c.args.place = end_below set c.remove_range.new.self c.args.place c.end-end.result
    (subst (λ n. (k : ℕ) → has c.remove_range.new.self k ≡ (not (is_from c.args.place n k) && has set k)) c.room.ensures
    c.remove_range.ensures.removed) c.end-end.ensures in
    omega (arith, low, c.requires)

pub returns : goal.returns
returns c = λ k.
    let set = c.args.set.now in
    elim c.match-first_from.branch [
      | in-Some+then-first-place+in_ok-make_room w ↦
          ap (λ s. has s k) w.kept-is
          ∙ all_copied (has set) (has w.remove_range.new.self) (has w.copy_range.new.self) w.in-Some.first w.end-end.result c.args.place
          (cut set w.remove_range.new.self c.args.place
          (subst (λ n. (j : ℕ) → has w.remove_range.new.self j ≡ (not (is_from c.args.place n j) && has set j)) w.room.ensures
          w.remove_range.ensures.removed))
          (λ j lt. sym (from_zero (has set) j) ∙ w.in-Some.ensures.1 j lt) w.end-end.ensures.below
          (λ j. w.copy_range.ensures.copied j
          ∙ ap (λ b. if is_from w.in-Some.first w.end-end.result j then has w.remove_range.new.self j else b)
          (w.make_room.ensures.same j ∙ c.new-kept.ensures.empty j)) k
      | in-Some+else-first-place w ↦
          ap (λ s. has s k) w.kept-is
          ∙ none_below (has set) (has c.new-kept.result) c.args.place c.new-kept.ensures.empty
          (λ j lt. sym (from_zero (has set) j) ∙ w.in-Some.ensures.1 j (omega (arith, lt, w.if-first-place.false))) k
      | in_default w ↦
          ap (λ s. has s k) w.kept-is
          ∙ none_below (has set) (has c.new-kept.result) c.args.place c.new-kept.ensures.empty
          (λ j lt. sym (from_zero (has set) j)
          ∙ (subst (λ (o : Option ℕ). IsFirstAt (λ i. nat_le 0 i && has set i) o) w.in_default.is c.first_from.ensures) j) k
    ]
