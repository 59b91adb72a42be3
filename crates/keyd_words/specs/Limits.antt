-- The bounds of what a plan has.
use Rattle.std.specs.Prelude.{ℕ, ◌≤◌, ◌<◌, ◌^◌, length, All, Option, MatchOption}
use Rattle.keyd_words.specs.declared.plan.KeyOptions.{KeyOptions}
use Rattle.keyd_words.specs.declared.plan.CreateOptions.{CreateOptions}
use Rattle.keyd_words.specs.declared.plan.StepOptions.{StepOptions}
use Rattle.keyd_words.specs.declared.plan.RunOptions.{RunOptions}
use Rattle.keyd_words.specs.declared.plan.CrashOptions.{CrashOptions}
use Rattle.keyd_words.specs.declared.plan.DrillOptions.{DrillOptions}
use Rattle.keyd_words.specs.declared.plan.MakeOptions.{MakeOptions}
use Rattle.keyd_words.specs.declared.plan.Plan.{Plan}
use Rattle.keyd_words.specs.declared.plan.Plan.TheVariants.{Create, Step, Run, Drill, Recover, Report, Make}
use Rattle.keyd_words.specs.Table.{log_blocks_least, log_blocks_most, spaces_allowed}
use Rattle.keyd_words.specs.Values.{pages_allowed, IsNewSpace, AreChoices}
use Rattle.keyd_words.specs.Settings.{pages_of_spaces, AreDifferent}

-- a number from low to high
abbrev pub IsFrom : ℕ → ℕ → ℕ → Type 0
IsFrom low high n = (low ≤ n) × (n ≤ high)

-- one where there is one
abbrev pub IsFromIfSome : ℕ → ℕ → Option ℕ → Type 0
IsFromIfSome low high n = MatchOption n (Unit {0}) (IsFrom low high)

-- 1 to 64 key files, and an active version of 1 to 4294967295
pub record IsKeyPlan (keys : KeyOptions) : Type 0 where
  pub files : IsFrom 1 64 (length keys.key_files)
  pub active : IsFrom 1 4294967295 keys.active

-- 1 to 16 tablespaces of different ids, each within its bounds and with 16384 pages together at most, and a log of 32 to 4096 blocks
pub record IsStorePlan (store : CreateOptions) : Type 0 where
  pub keys : IsKeyPlan store.keys
  pub spaces : IsFrom 1 spaces_allowed (length store.spaces)
  pub each : All IsNewSpace store.spaces
  pub differ : AreDifferent store.spaces
  pub fit : pages_of_spaces store.spaces ≤ pages_allowed
  pub log : IsFrom log_blocks_least log_blocks_most store.log

-- an age of 0 to 2^31
pub record IsStepPlan (step : StepOptions) : Type 0 where
  pub keys : IsKeyPlan step.keys
  pub age : step.age ≤ 2147483648

-- 1 to 4 threads of each kind
pub record IsRunPlan (run : RunOptions) : Type 0 where
  pub step : IsStepPlan run.step
  pub flushers : IsFrom 1 4 run.flushers
  pub rotators : IsFrom 1 4 run.rotators

-- a stop of 1 to 1000000, where there is one, and 1 to 64 choices
pub record IsCrashPlan (crash : CrashOptions) : Type 0 where
  pub stop : IsFromIfSome 1 1000000 crash.stop
  pub choices : AreChoices crash.choices

pub record IsDrillPlan (drill : DrillOptions) : Type 0 where
  pub store : IsStorePlan drill.store
  pub age : drill.age ≤ 2147483648
  pub first : IsCrashPlan drill.first
  pub reopen : IsFromIfSome 1 1000000 drill.reopen
  pub second : MatchOption drill.second (Unit {0}) IsCrashPlan

-- 1 to 4000 mini-transactions, and a start below 2^64
pub record IsMakePlan (make : MakeOptions) : Type 0 where
  pub number : make.number < 2 ^ 64
  pub count : IsFrom 1 4000 make.count

-- what the plan has is within the bounds that the words have
unfoldable pub IsWithinLimits : Plan → Type 0
IsWithinLimits (Create store) = IsStorePlan store
IsWithinLimits (Step step) = IsStepPlan step
IsWithinLimits (Run run) = IsRunPlan run
IsWithinLimits (Drill drill) = IsDrillPlan drill
IsWithinLimits (Recover keys) = IsKeyPlan keys
IsWithinLimits (Report keys) = IsKeyPlan keys
IsWithinLimits (Make make) = IsMakePlan make
