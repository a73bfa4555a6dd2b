-- Slides that are added for statements, one after the other.
use Rattle.std.proofs.Common.{◌≡◌, ℕ, ◌+◌, ◌-◌, ◌<◌, Bool, List, [], ◌∷◌, ◌++◌, Vec, Global, length, get_or, map, take, sym, ap, ◌∙◌, subst}
use Rattle.std.specs.Prelude.{◌&&◌}
use Rattle.std.proofs.lemmas.List.{append_assoc, append-nil, map-append, take_more}
use Rattle.base.specs.declared.tree.Bounds.{Bounds}
use Rattle.base.specs.declared.tree.Expr.{Expr}
use Rattle.base.specs.declared.tree.Stmt.{Stmt, Block, If}
use Rattle.base.specs.declared.fault.Interval.{Interval}
use Rattle.base.specs.Footprint.{Touch, expr_touches, stmt_touches, unless}
use Rattle.base.specs.Interval.{interval, is_known_nonzero, is_known_zero}
use Rattle.ranges.specs.declared.access.Access.{Access}
use Rattle.ranges.specs.declared.slide.Slide.{Slide}
use Rattle.ranges.specs.Cases.{AddsSlides, IsSteady, IsTurn}
use Rattle.ranges.specs.Seen.{list_touches}
use Rattle.ranges.specs.Slides.{AllFit, Fits, IsSlideOf, slide_touch}
use Rattle.ranges.specs.Straight.{touch_at}
use Rattle.ranges.proofs.SlidingTurns.{one_fits}
use Rattle.ranges.proofs.Touches.{touches_Block, touches_If}

module _ (lengths loops : List ℕ) (b : Bounds) where
  pub one_added : (certain : Bool) (a : Access) (s : Slide) (old new : List Slide) → IsSlideOf loops b certain a s →
      Fits lengths (b.end - b.first) s → new ≡ old ++ s ∷ [] → AddsSlides lengths loops b (λ ls. touch_at ls certain a ∷ []) old new
  one_added certain a s old new is fits new_is = record {
    touch = λ v turn.
        ap (map (slide_touch (v - b.first))) new_is
        ∙ map-append (slide_touch (v - b.first)) old (s ∷ [])
        ∙ ap (λ (t : Touch). map (slide_touch (v - b.first)) old ++ t ∷ []) (sym (is v turn.from turn.below));
    fit = λ fit. subst (AllFit lengths (b.end - b.first)) (sym new_is) (one_fits lengths (b.end - b.first) old s fit fits);
  }

  pub none_added : (slides : List Slide) → AddsSlides lengths loops b (λ ls. []) slides slides
  none_added slides = record {
    touch = λ v turn. sym (append-nil (map (slide_touch (v - b.first)) slides));
    fit = λ fit. fit;
  }

  pub both_added : (f g : List ℕ → List Touch) (old mid new : List Slide) → AddsSlides lengths loops b f old mid →
      AddsSlides lengths loops b g mid new → AddsSlides lengths loops b (λ ls. f ls ++ g ls) old new
  both_added f g old mid new h k = record {
    touch = λ v turn.
        k.touch v turn
        ∙ ap (λ (ts : List Touch). ts ++ g (loops ++ v ∷ [])) (h.touch v turn)
        ∙ append_assoc (map (slide_touch (v - b.first)) old) (f (loops ++ v ∷ [])) (g (loops ++ v ∷ []));
    fit = λ fit. k.fit (h.fit fit);
  }

  -- the same touches in all turns
  pub same_added : (f g : List ℕ → List Touch) (old new : List Slide) →
      ((v : ℕ) → IsTurn b v → f (loops ++ v ∷ []) ≡ g (loops ++ v ∷ [])) → AddsSlides lengths loops b f old new →
      AddsSlides lengths loops b g old new
  same_added f g old new same h = record {
    touch = λ v turn. h.touch v turn ∙ ap (λ (ts : List Touch). map (slide_touch (v - b.first)) old ++ ts) (same v turn);
    fit = h.fit;
  }

  pub added_Block : (s : Stmt) (all : Vec Stmt Global) (xs : List Stmt) (certain : Bool) (old new : List Slide) → s ≡ Block all →
      xs ≡ all.items → AddsSlides lengths loops b (λ ls. list_touches xs ls certain) old new →
      AddsSlides lengths loops b (λ ls. stmt_touches s ls certain) old new
  added_Block s all xs certain old new is xs_is = same_added _ (λ ls. stmt_touches s ls certain) old new
      (λ v turn. ap (λ ys. list_touches ys (loops ++ v ∷ []) certain) xs_is ∙ sym (touches_Block all (loops ++ v ∷ []) certain)
      ∙ ap (λ t. stmt_touches t (loops ++ v ∷ []) certain) (sym is))

  pub added_If : (s : Stmt) (c : Expr) (all other : Vec Stmt Global) (xs ys : List Stmt) (here : List ℕ) (known : Interval)
      (certain fails holds one two : Bool) (old tested mid new : List Slide) →
      s ≡ If c all other → xs ≡ all.items → ys ≡ other.items → here ≡ loops ++ b.first ∷ [] → known ≡ interval c here →
      fails ≡ is_known_zero known → holds ≡ is_known_nonzero known → one ≡ (certain && holds) → two ≡ (certain && fails) →
      IsSteady loops b c → AddsSlides lengths loops b (λ ls. expr_touches c ls certain) old tested →
      AddsSlides lengths loops b (λ ls. unless fails (list_touches xs ls one)) tested mid →
      AddsSlides lengths loops b (λ ls. unless holds (list_touches ys ls two)) mid new →
      AddsSlides lengths loops b (λ ls. stmt_touches s ls certain) old new
  added_If s c all other xs ys here known certain fails holds one two old tested mid new is xs_is ys_is here_is known_is fails_is
      holds_is one_is two_is steady condition first second =
      same_added (λ ls. expr_touches c ls certain ++ (unless fails (list_touches xs ls one) ++ unless holds (list_touches ys ls two)))
      (λ ls. stmt_touches s ls certain) old new same
      (both_added (λ ls. expr_touches c ls certain) (λ ls. unless fails (list_touches xs ls one) ++ unless holds (list_touches ys ls two))
      old tested new condition
      (both_added (λ ls. unless fails (list_touches xs ls one)) (λ ls. unless holds (list_touches ys ls two)) tested mid new first second))
    where
      same : (v : ℕ) → IsTurn b v →
          (expr_touches c (loops ++ v ∷ []) certain
          ++ (unless fails (list_touches xs (loops ++ v ∷ []) one) ++ unless holds (list_touches ys (loops ++ v ∷ []) two)))
          ≡ stmt_touches s (loops ++ v ∷ []) certain
      same v turn =
          let at = loops ++ v ∷ [] in
          let now : known ≡ interval c at = known_is ∙ ap (interval c) here_is ∙ sym (steady v turn) in
          let failing : fails ≡ is_known_zero (interval c at) = fails_is ∙ ap (λ k. is_known_zero k) now in
          let holding : holds ≡ is_known_nonzero (interval c at) = holds_is ∙ ap (λ k. is_known_nonzero k) now in
          let first_is : one ≡ (certain && is_known_nonzero (interval c at)) = one_is ∙ ap (λ x. certain && x) holding in
          let second_is : two ≡ (certain && is_known_zero (interval c at)) = two_is ∙ ap (λ x. certain && x) failing in
          (λ i. expr_touches c at certain ++ (unless (failing i) (list_touches (xs_is i) at (first_is i))
          ++ unless (holding i) (list_touches (ys_is i) at (second_is i))))
          ∙ sym (touches_If c all other at certain)
          ∙ ap (λ t. stmt_touches t at certain) (sym is)

  -- one more statement
  pub more_added : (all : List Stmt) (i : ℕ) (s : Stmt) (certain : Bool) (old mid new : List Slide) → i < length all → s ≡ get_or all i s →
      AddsSlides lengths loops b (λ ls. list_touches (take i all) ls certain) old mid →
      AddsSlides lengths loops b (λ ls. stmt_touches s ls certain) mid new →
      AddsSlides lengths loops b (λ ls. list_touches (take (i + 1) all) ls certain) old new
  more_added all i s certain old mid new lt is h k =
      same_added (λ ls. list_touches (take i all) ls certain ++ stmt_touches s ls certain)
      (λ ls. list_touches (take (i + 1) all) ls certain) old new
      (λ v turn. sym (ap (λ xs. list_touches xs (loops ++ v ∷ []) certain) (take_more all i s lt ∙ ap (λ (y : Stmt). take i all ++ y ∷ []) (sym is))
      ∙ go (take i all) (loops ++ v ∷ [])))
      (both_added (λ ls. list_touches (take i all) ls certain) (λ ls. stmt_touches s ls certain) old mid new h k)
    where
      go : (xs : List Stmt) (ls : List ℕ) → list_touches (xs ++ s ∷ []) ls certain ≡ list_touches xs ls certain ++ stmt_touches s ls certain
      go [] ls = append-nil (stmt_touches s ls certain)
      go (y ∷ ys) ls =
          ap (λ (ts : List Touch). stmt_touches y ls certain ++ ts) (go ys ls)
          ∙ sym (append_assoc (stmt_touches y ls certain) (list_touches ys ls certain) (stmt_touches s ls certain))
