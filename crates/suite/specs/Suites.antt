-- What the two suites compute, from their keys of 16 bytes.
use Rattle.std.specs.Prelude.{ℕ, ◌+◌, ◌*◌, ◌/◌, ◌%◌, ◌^◌, List, [], ◌∷◌, map, take, drop}
use Rattle.std.specs.List.{range_with_len}
use Rattle.sip.specs.Sip.{siphash24, le}
use Rattle.aes.specs.Aes.{aes128}
use Rattle.cmac.specs.Cmac.{cmac}
use Rattle.suite.specs.Scheme.{Scheme}
use Rattle.suite.specs.Words.{row}
use Rattle.suite.specs.Message.{message, pad_block}

-- A mac keeps 54 bits.
abbrev pub mac_bits : ℕ → ℕ
mac_bits n = n % 2 ^ 54

-- Pad word i: half of an encrypted block, the first half for even i, read lowest byte first.
unfoldable pub pad_word : List ℕ → ℕ → ℕ → ℕ → ℕ
pad_word key a c i = le (take 8 (drop (8 * (i % 2)) (aes128 key (pad_block a c (i / 2)))))

-- Words 2j and 2j + 1 of a pad, which part j gives.
abbrev pub pad_part : List ℕ → ℕ → ℕ → ℕ → List ℕ
pad_part key a c j = pad_word key a c (2 * j) ∷ pad_word key a c (2 * j + 1) ∷ []

-- Suite 1: a SipHash-2-4 mac, and a pad of four AES-128 blocks.
abbrev pub sip_scheme : List ℕ → List ℕ → Scheme
sip_scheme mac_key pad_key =
    record {
      number = 1;
      mac = λ a ws c. mac_bits (siphash24 mac_key (message a ws c));
      pad = λ a c. row (map (pad_word pad_key a c) (range_with_len 0 8));
    }

-- Suite 2: the first eight bytes of an AES-CMAC as the mac, and a pad of zeros.
abbrev pub cmac_scheme : List ℕ → Scheme
cmac_scheme mac_key =
    record {
      number = 2;
      mac = λ a ws c. mac_bits (le (take 8 (cmac (aes128 mac_key) (message a ws c))));
      pad = λ a c i. 0;
    }
