-- The facts that are true of a script before its first line, and with a period.
use Rattle.std.proofs.Common.{◌≡◌, ℕ, ◌<◌, arith, subst, Some}
use Rattle.run_script.specs.declared.events.Event.TheVariants.{Tick, Irq, Feed}
use Rattle.run_script.specs.Facts.{Facts, HasDevice, HasLine, IsPeriod}
use Rattle.run_script.specs.Scripts.{ScriptData, no_script}

pub no_device_of_irq : (line device byte : ℕ) → Irq line ≡ Feed device byte → (device < 8) × (byte < 256)
no_device_of_irq line device byte e = absurd (cc)

pub line_of_irq : (own line : ℕ) → own < 64 → Irq own ≡ Irq line → line < 64
line_of_irq own line h e = let same : own ≡ line = (cc) in omega (arith, same)

pub no_line_of_tick : HasLine Tick
no_line_of_tick line e = absurd (cc)

pub no_device_of_tick : HasDevice Tick
no_device_of_tick device byte e = absurd (cc)

pub has_line_irq : (own : ℕ) → own < 64 → HasLine (Irq own)
has_line_irq own h line e = line_of_irq own line h e

pub has_device_irq : (own : ℕ) → HasDevice (Irq own)
has_device_irq own device byte e = no_device_of_irq own device byte e

pub has_line_feed : (own value : ℕ) → HasLine (Feed own value)
has_line_feed own value line e = absurd (cc)

pub has_device_feed : (own value : ℕ) → own < 8 → value < 256 → HasDevice (Feed own value)
has_device_feed own value h k device byte e =
    let same : own ≡ device = (cc) in
    let alike : value ≡ byte = (cc) in
    (omega (arith, same), omega (arith, alike))

pub facts_none : Facts no_script
facts_none = record {
  every = λ period e. absurd (cc);
  most = omega arith;
  ascending = λ i j d a b. absurd (omega arith);
  most_each = λ turn. omega arith;
  listed = λ i d lt. absurd (omega arith);
}

pub kept_period : (d : ScriptData) (period : ℕ) → IsPeriod period → Facts d → Facts (record { every = Some period; events = d.events })
kept_period d period known f = record {
  every = λ q e. let same : period ≡ q = (cc) in subst IsPeriod same known;
  most = f.most;
  ascending = f.ascending;
  most_each = f.most_each;
  listed = f.listed;
}
