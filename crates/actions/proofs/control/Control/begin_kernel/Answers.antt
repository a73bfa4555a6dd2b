use Rattle.std.proofs.Common.{◌≡◌, ℕ, List, [], ◌∷◌, ◌==◌, ◌∙◌, None, Some, length, true, refl, sym, arith}
use Rattle.std.proofs.lemmas.Result.{on_ok_weaker}
use Rattle.actions.proofs.KernelBegins.{kernel_begun, kernel_stands}
use Rattle.actions.proofs.control.Control.begin_kernel.Goals as goal

-- an empty list of numbers
none_of : (xs : List ℕ) → (length xs == 0) ≡ true → xs ≡ []
none_of [] e = refl
none_of (x ∷ xs) e = absurd (grind (arith, e))

pub returns-then-next-count-clause-same : goal.returns-then-next-count-clause-same
returns-then-next-count-clause-same c =
    kernel_stands c.args.self.now
    (record (c.args.self.now) {
      turns = c.begin_turns.new.turns;
      kernel = Some (record (c.args.kernel) { next = c.in_ok-next.next });
    })
    c.args.kernel c.in_ok-next.next c.requires.ended c.requires.none c.requires.kernel c.in_ok-next.ensures.begun refl
    (none_of c.args.self.now.order.now (sym c.is_empty-one.ensures ∙ (c.in_ok-next.ensures.stops c.if-next-count.true).0))
    refl refl

pub returns-clause-same : goal.returns-clause-same
returns-clause-same c =
    on_ok_weaker c.advance.result
    (λ same.
    kernel_begun c.args.self.now
    (record (c.args.self.now) { turns = c.begin_turns.new.turns; strand = c.advance.new.self; kernel = None })
    c.args.kernel c.in_ok-next.next c.requires.ended c.requires.none c.requires.kernel c.in_ok-next.ensures.begun refl
    c.push.new.self (omega (arith, c.if-next-count.false, c.in-Some.ensures c.args.kernel.loops.now)) c.in_ok-push.ensures.pushed
    same refl) c.advance.ensures.same
