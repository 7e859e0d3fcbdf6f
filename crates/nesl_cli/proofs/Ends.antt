-- How a prompt ends.
use Rattle.std.proofs.Common.{◌≡◌, ℕ, List, Bool, Option, Some, None, option_map, refl, sym, ap, ◌∙◌, subst}
use Rattle.nesl_session_meaning.specs.State.{Log, empty_log}
use Rattle.nesl_line.specs.declared.exchange.End.{End}
use Rattle.nesl_line.specs.declared.exchange.End.TheVariants.{Input, ReadFault, WriteFault, NoMemory}
use Rattle.nesl_prompt.specs.Conversation.{IsPrompt}
use Rattle.nesl_cli.specs.declared.failure.Failure.TheVariants.{Prompt}
use Rattle.nesl_cli.specs.declared.prompt.PromptFault.{PromptFault}
use Rattle.nesl_cli.specs.declared.prompt.PromptFault.TheVariants.{Memory}
use Rattle.nesl_cli.specs.Failures.{prompt_failure_of}
use Rattle.nesl_session_meaning.specs.declared.limits.Limits.{Limits}
use Rattle.nesl_cli.specs.Program.{Prompted, PromptFails, ended, unopened}
use Rattle.nesl_cli.proofs.Failed.{untouched}

-- it ended so, over a new session
pub prompted : (plain : Bool) (end : End) (count : ℕ) (bounds : Limits) (left left' held held' : Option (List ℕ)) (log log' : Log) → log ≡ empty_log bounds → IsPrompt plain log log' end count (record { left = left; left_after = left'; held = held; held_after = held' }) → Prompted plain end bounds left left' held held'
prompted plain end count bounds left left' held held' log log' e p = let P : Log → Type 0 = λ x. IsPrompt plain x log' end count (record { left = left; left_after = left'; held = held; held_after = held' }) in (count, (log', subst P e p))

-- at the end of input
pub heard : (plain : Bool) (end : End) (count : ℕ) (bounds : Limits) (left left' held held' : Option (List ℕ)) (log log' : Log) → log ≡ empty_log bounds → IsPrompt plain log log' end count (record { left = left; left_after = left'; held = held; held_after = held' }) → None ≡ prompt_failure_of end → Prompted plain Input bounds left left' held held'
heard plain Input count bounds left left' held held' log log' e p n = prompted plain Input count bounds left left' held held' log log' e p
heard plain ReadFault count bounds left left' held held' log log' e p n = absurd (cc)
heard plain WriteFault count bounds left left' held held' log log' e p n = absurd (cc)
heard plain NoMemory count bounds left left' held held' log log' e p n = absurd (cc)

-- before it
pub broken : (plain : Bool) (end : End) (fault : PromptFault) (count : ℕ) (bounds : Limits) (left left' held held' : Option (List ℕ)) (log log' : Log) → log ≡ empty_log bounds → IsPrompt plain log log' end count (record { left = left; left_after = left'; held = held; held_after = held' }) → Some fault ≡ prompt_failure_of end
    → PromptFails plain bounds (Prompt fault) left left' held held'
broken plain end fault count bounds left left' held held' log log' e p f = ended end (prompted plain end count bounds left left' held held' log log' e p) (sym (ap (option_map (λ x. Prompt x)) f))

-- or it was never opened
pub unmade : (plain : Bool) (bounds : Limits) (left held : Option (List ℕ)) → PromptFails plain bounds (Prompt Memory) left left held held
unmade plain bounds left held = unopened (untouched left held) refl
