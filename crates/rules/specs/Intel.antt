-- Intel's errata (errata.rs as published) as a rule table. Each group of rows gives one flag; a pair is a row's mask and wanted number.
use Rattle.std.specs.Prelude.{ℕ, cond, List, [], ◌∷◌, ◌++◌, leb, length, drop}
use Rattle.rules.specs.Rules.{legacy_server, legacy_gpu, legacy_server_box, sizes_in_bytes}

-- header type 0 of the server products 0x2f, 0x82, 0x8e
unfoldable pub servers : List (ℕ × ℕ)
servers =
    (0x00ffff00, 0x0002f000)
    ∷ (0x00ffff00, 0x00082000)
    ∷ (0x00ffff00, 0x0008e000)
    ∷ []

-- of these, record type 4
unfoldable pub server_cores : List (ℕ × ℕ)
server_cores =
    (0x3fffff00, 0x0402f000)
    ∷ (0x3fffff00, 0x04082000)
    ∷ (0x3fffff00, 0x0408e000)
    ∷ []

-- header type 0 of the GPU products 0x5d, 0x5e, 0x5f, 0xb6
unfoldable pub gpus : List (ℕ × ℕ)
gpus =
    (0x00ffdf00, 0x0005d000)
    ∷ (0x00ffef00, 0x0005e000)
    ∷ (0x00ffff00, 0x000b6000)
    ∷ []

-- record type 4 of the products below 0x71 and of 0x85, and record type 6 of those below 0x96, save the headers of `servers` and `gpus`
unfoldable pub cores : List (ℕ × ℕ)
cores =
    (0x3df7f000, 0x04005000)
    ∷ (0x3df8f000, 0x04000000)
    ∷ (0x3dfa0100, 0x04000100)
    ∷ (0x3dfa0200, 0x04000200)
    ∷ (0x3dfa0400, 0x04000400)
    ∷ (0x3dfa0800, 0x04000800)
    ∷ (0x3dfa3000, 0x04000000)
    ∷ (0x3dfa4000, 0x04000000)
    ∷ (0x3dfa8000, 0x04000000)
    ∷ (0x3dfc0100, 0x04000100)
    ∷ (0x3dfc0200, 0x04000200)
    ∷ (0x3dfc0400, 0x04000400)
    ∷ (0x3dfc0800, 0x04000800)
    ∷ (0x3dfc1000, 0x04000000)
    ∷ (0x3dfc2000, 0x04000000)
    ∷ (0x3dfc4000, 0x04000000)
    ∷ (0x3dfc8000, 0x04000000)
    ∷ (0x3dfd0000, 0x04010000)
    ∷ (0x3dfd0000, 0x04040000)
    ∷ (0x3dfe0000, 0x04000000)
    ∷ (0x3ff6a000, 0x06000000)
    ∷ (0x3ff70100, 0x06000100)
    ∷ (0x3ff70200, 0x06000200)
    ∷ (0x3ff70400, 0x06000400)
    ∷ (0x3ff70800, 0x06000800)
    ∷ (0x3ff71000, 0x06001000)
    ∷ (0x3ff72000, 0x06000000)
    ∷ (0x3ff7c000, 0x06004000)
    ∷ (0x3ff7c000, 0x06008000)
    ∷ (0x3ff7c000, 0x06010000)
    ∷ (0x3ffe0000, 0x06060000)
    ∷ []

-- the rows of a group
unfoldable pub giving : ℕ → List (ℕ × ℕ) → List ℕ
giving flag [] = []
giving flag ((mask, wanted) ∷ rest) = mask ∷ wanted ∷ flag ∷ giving flag rest

-- the 40 rows, 120 numbers
unfoldable pub intel : List ℕ
intel = giving legacy_server servers ++ (giving legacy_server_box server_cores ++ (giving legacy_gpu gpus ++ giving sizes_in_bytes cores))

-- the table at the start of the output, where it fits, and how many numbers it has
unfoldable pub intel_out : List ℕ → List ℕ × ℕ
intel_out out = (cond (leb (length intel) (length out)) (intel ++ drop (length intel) out) out, length intel)
