-- The smallest number not below the stored one: the two facts that restoring rests on.
use Rattle.std.proofs.Common.{◌≡◌, ℕ, ◌-◌, ◌%◌, ◌≤◌, arith}
use Rattle.machine.specs.Layout.{restored}

pub restored_le : (s c : ℕ) → s ≤ c → restored s (c % 1024) ≤ c
restored_le s c h = omega arith

pub restored_is : (s c : ℕ) → s ≤ c → c - s ≤ 1023 → restored s (c % 1024) ≡ c
restored_is s c h k = omega arith

pub restored_above : (s l : ℕ) → s ≤ restored s l
restored_above s l = omega arith
