-- Which cause of a refusal there is where a number is no incarnation, or a text is no level.
use Rattle.std.proofs.Common.{◌≡◌, ℕ, List, Some, None, refl, arith}
use Rattle.std.proofs.lemmas.Grind.{common_steps}
use Rattle.log.specs.declared.level.LevelFilter.{LevelFilter}
use Rattle.subj.specs.Numbers.{incarnation_of}
use Rattle.router_command.specs.Levels.{level_named}
use Rattle.router_command.specs.Refusals.{level_fault, value_fault}
use Rattle.router_command.specs.declared.options.OptionFault.TheVariants.{BadValue, NoLevel}
use Rattle.router_command.specs.declared.options.OptionName.TheVariants.{Inc}

pub inc_passes : (number inc : ℕ) → Some inc ≡ incarnation_of number → None ≡ value_fault Inc number
unfolding value_fault
inc_passes number inc is = grind (arith, common_steps)

pub inc_fails : (number : ℕ) → None ≡ incarnation_of number → Some (BadValue Inc) ≡ value_fault Inc number
unfolding value_fault
inc_fails number is = grind (arith, common_steps)

pub level_passes : (text : List ℕ) (level : LevelFilter) → Some level ≡ level_named text → None ≡ level_fault text
unfolding level_fault
level_passes text level is = rw (← is) refl

pub level_fails : (text : List ℕ) → None ≡ level_named text → Some NoLevel ≡ level_fault text
unfolding level_fault
level_fails text is = rw (← is) refl
