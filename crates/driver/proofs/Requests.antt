-- What is done of a request, and of the source that it names.
use Rattle.std.proofs.Common.{◌≡◌, ℕ, List, Option, sym, subst}
use Rattle.std.specs.Prelude.{Result, IfOk, IfSome}
use Rattle.c_lines.specs.Spliced.{spliced}
use Rattle.command.specs.declared.request.Request.{Request}
use Rattle.driver.specs.Printed.{IsDone, KnownSources, OfSource, file_of}

-- what is done of a request is done of the same one
pub same_request : {E : Type 0} (r : Result ℕ E) (sources : KnownSources) (known old new : Option (List ℕ)) (p q : Request) → p ≡ q →
    IfOk r (λ s. s ≡ 0 → OfSource (sources (file_of q)) (λ bytes. IsDone q bytes known old new)) →
    IfOk r (λ s. s ≡ 0 → OfSource (sources (file_of p)) (λ bytes. IsDone p bytes known old new))
same_request r sources known old new p q e h =
    subst (λ (u : Request). IfOk r (λ s. s ≡ 0 → OfSource (sources (file_of u)) (λ bytes. IsDone u bytes known old new))) (sym e) h

-- what holds of the bytes that were found holds of the source
pub of_source : (source : Option (List ℕ)) (P : List ℕ → Type 0) (found bytes : List ℕ) → IfSome source (λ xs. found ≡ spliced xs) → bytes ≡ found
    → P bytes → OfSource source P
of_source source P found bytes are same h =
    record { bytes = bytes; are = subst (λ (b : List ℕ). IfSome source (λ xs. b ≡ spliced xs)) (sym same) are; holds = h }
