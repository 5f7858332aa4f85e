-- Addresses of words of RAM, and their numbers.
use Rattle.std.proofs.Common.{◌≡◌, ℕ, ◌%◌, ◌≤◌, arith}
use Rattle.lf_model.specs.Bus.Words.{word_of}
use Rattle.lf_model.specs.Start.{ram_first}
use Rattle.bus_memory.specs.Followed.{address_of}
use Rattle.ram_words.specs.Ram.{place_of}

pub place_back : (place : ℕ) → place_of (address_of place) ≡ place
place_back place = omega arith

pub address_back : (addr : ℕ) → addr % 4 ≡ 0 → ram_first ≤ addr → address_of (place_of addr) ≡ addr
address_back addr aligned above = omega arith

pub address_of-place : (addr : ℕ) → ram_first ≤ addr → address_of (place_of addr) ≡ word_of addr
address_of-place addr above = omega arith

pub place_of-word : (addr : ℕ) → ram_first ≤ addr → place_of (word_of addr) ≡ place_of addr
place_of-word addr above = omega arith

pub address_aligned : (place : ℕ) → address_of place % 4 ≡ 0
address_aligned place = omega arith

pub address_above : (place : ℕ) → ram_first ≤ address_of place
address_above place = omega arith
