-- Which clause stands next.
use Rattle.std.specs.Prelude.{◌≡◌, Bool, false, ◌&&◌, codes}
use Rattle.c_grammar.specs.Lexeme.{Lexeme}
use Rattle.c_grammar.specs.LineGrammar.{Amount, Collapse, NumTeams, ThreadLimit, NumThreads, SimdLen, SafeLen, amount_word, DirectiveKind, takes_map, takes_motion, takes_depend, takes_nowait, takes_device, takes_amount, takes_schedule}
use Rattle.c_grammar.specs.LineMachine.{is_word}

abbrev pub is_map : DirectiveKind → Lexeme → Bool
is_map k t = takes_map k && is_word (codes "map") t

abbrev pub is_depend : DirectiveKind → Lexeme → Bool
is_depend k t = takes_depend k && is_word (codes "depend") t

abbrev pub is_nowait : DirectiveKind → Lexeme → Bool
is_nowait k t = takes_nowait k && is_word (codes "nowait") t

abbrev pub is_device : DirectiveKind → Lexeme → Bool
is_device k t = takes_device k && is_word (codes "device") t

abbrev pub is_schedule : DirectiveKind → Lexeme → Bool
is_schedule k t = takes_schedule k && is_word (codes "schedule") t

abbrev pub is_amount : DirectiveKind → Amount → Lexeme → Bool
is_amount k a t = takes_amount k a && is_word (amount_word a) t

-- no clause of an amount
abbrev pub IsNoAmount : DirectiveKind → Lexeme → Type 0
IsNoAmount k t = (is_amount k Collapse t ≡ false) × (is_amount k NumTeams t ≡ false) × (is_amount k ThreadLimit t ≡ false) ×
    (is_amount k NumThreads t ≡ false) × (is_amount k SimdLen t ≡ false) × (is_amount k SafeLen t ≡ false)

-- no clause of an update
abbrev pub IsNoMotion : DirectiveKind → Lexeme → Type 0
IsNoMotion k t = ((takes_motion k && is_word (codes "to") t) ≡ false) ×
    ((takes_motion k && is_word (codes "from") t) ≡ false)
