-- The reply to a finding is the reply of the step.
use Rattle.std.proofs.Common.{◌≡◌, ℕ, ◌++◌, List, Bool, Option, codes, length, map, refl, ap, ◌∙◌, subst}
use Rattle.nesl_reply.specs.declared.fault.Fault.{Fault}
use Rattle.nesl_reply.specs.Replies.{Report, report_text}
use Rattle.nesl_session_bindings.specs.Known.{datatypes_of}
use Rattle.nesl_session.specs.declared.forms.finding.Finding.{Finding as Found}
use Rattle.nesl_session.specs.declared.forms.finding.Finding.TheVariants as found
use Rattle.nesl_session_meaning.specs.State.{State}
use Rattle.nesl_session_meaning.specs.Response.{Reply}
use Rattle.nesl_session_meaning.specs.Step.{reply_of}
use Rattle.nesl_session.specs.Found.{finding_of, finding_report, fault_in, is_recorded}

plain : (s : State) (f : Found) → record { bytes = report_text (datatypes_of s.bindings) (map (λ b. b.name) s.bindings) (finding_report (length s.transcript) f) ++ codes "\n"; fault = fault_in f; recorded = is_recorded f } ≡ reply_of s (finding_of f)
plain s (found.Unread fault) = refl
plain s found.Reset = refl
plain s found.Part = refl
plain s (found.Refused fault work) = refl
plain s (found.Answered t) = refl
plain s (found.Defined d) = refl

pub replied : (s : State) (f : Found) (lines : ℕ) (t : Report) (bytes : List ℕ) (fault : Option Fault) (recorded : Bool) (r : Reply) → r ≡ record { bytes = bytes; fault = fault; recorded = recorded }
    → fault ≡ fault_in f → recorded ≡ is_recorded f → bytes ≡ report_text (datatypes_of s.bindings) (map (λ b. b.name) s.bindings) t ++ codes "\n" → t ≡ finding_report lines f → lines ≡ length s.transcript → r ≡ reply_of s (finding_of f)
replied s f lines t bytes fault recorded r e p q b u n =
    let P : Report → Type 0 = λ y. bytes ≡ report_text (datatypes_of s.bindings) (map (λ b. b.name) s.bindings) y ++ codes "\n" in
    let same = subst P (u ∙ ap (λ k. finding_report k f) n) b in
    e ∙ (λ i. record { bytes = same i; fault = p i; recorded = q i }) ∙ plain s f

pub fault_replied : (s : State) (f : Found) → fault_in f ≡ (reply_of s (finding_of f)).fault
fault_replied s (found.Unread fault) = refl
fault_replied s found.Reset = refl
fault_replied s found.Part = refl
fault_replied s (found.Refused fault work) = refl
fault_replied s (found.Answered t) = refl
fault_replied s (found.Defined d) = refl
