-- Tokens before and behind a sign.
use Rattle.std.proofs.Common.{◌≡◌, ◌∙◌, ℕ, ◌+◌, ◌-◌, List, length, map, take, drop, Option, Some, sym, ap, ap₂}
use Rattle.std.specs.Prelude.{option_map}
use Rattle.std.proofs.lemmas.List.{drop-map, take-map, take_rest}
use Rattle.c_tokens.specs.declared.kind.Sign.{Sign}
use Rattle.c_grammar.specs.Terminal.{Terminal}
use Rattle.c_grammar.specs.Updates.{cut, sign_in}
use Rattle.c_terminals.specs.declared.token.Terminal.{Terminal as Token}
use Rattle.c_written.specs.Extremes.{all_seen}
use Rattle.c_terminals.specs.Seen.{seen_terminal}

pub cut_is : (s : Sign) (ts : List Token) (n : ℕ) → Some n ≡ sign_in s 0 (all_seen ts) →
    Some (all_seen (take n ts), all_seen (take (length ts - (n + 1)) (drop (n + 1) ts))) ≡ cut s (all_seen ts)
cut_is s ts n e =
    ap₂ (λ (us vs : List Terminal). Some (us, vs)) (sym (take-map seen_terminal n ts))
    (ap all_seen (take_rest ts (n + 1)) ∙ sym (drop-map seen_terminal (n + 1) ts))
    ∙ ap (λ (o : Option ℕ). option_map (λ (k : ℕ). (take k (all_seen ts), drop (k + 1) (all_seen ts))) o) e
