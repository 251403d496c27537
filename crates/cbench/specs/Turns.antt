-- What the benchmark's loops compute.
use Rattle.std.specs.Prelude.{List, ◌++◌, ℕ, zero, suc, drop}
use Rattle.aes.specs.Aes.{aes128}
use Rattle.cmac.specs.Cmac.{cmac}

-- A function applied n times.
unfoldable pub turned : (List ℕ → List ℕ) → ℕ → List ℕ → List ℕ
turned f zero x = x
turned f (suc n) x = f (turned f n x)

-- A message with its tag in place of its first 16 bytes.
abbrev pub tagged : List ℕ → List ℕ → List ℕ
tagged key m = cmac (aes128 key) m ++ drop 16 m
