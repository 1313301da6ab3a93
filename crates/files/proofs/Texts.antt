-- The law of reading, of the two files. Assumes nothing.
use Rattle.std.proofs.Common.{ℕ, List}
use Rattle.files.specs.Files.{drawn_format, intended_format}
use Rattle.files.specs.Lawful.{ReadExactly, ReadOneWay}
use Rattle.files.proofs.Law.{read_exactly, read_one_way}
use Rattle.files.proofs.DrawnFacts.{drawn_facts}
use Rattle.files.proofs.IntendedFacts.{intended_facts}

pub drawn_exactly : (text : List ℕ) → ReadExactly drawn_format text
drawn_exactly = read_exactly drawn_format drawn_facts

pub drawn_one_way : (text : List ℕ) → ReadOneWay drawn_format text
drawn_one_way = read_one_way drawn_format drawn_facts

pub intended_exactly : (text : List ℕ) → ReadExactly intended_format text
intended_exactly = read_exactly intended_format intended_facts

pub intended_one_way : (text : List ℕ) → ReadOneWay intended_format text
intended_one_way = read_one_way intended_format intended_facts
