-- What the code holds, as the definitions see it.
use Rattle.std.specs.Prelude.{List, map, string_bytes, String}
use Rattle.std.specs.declared.alloc.Global.{Global}
use Rattle.std.specs.Borrow.{Bor}
use Rattle.word_grammar.specs.declared.grammar.CommandName.{CommandName}
use Rattle.tool_words.specs.declared.items.Said.{Said}
use Rattle.tool_words.specs.declared.items.Said.TheVariants as word
use Rattle.tool_words.specs.declared.items.Item.{Item}
use Rattle.tool_words.specs.declared.items.Item.TheVariants as item
use Rattle.tool_words.specs.declared.items.Next.{Next}
use Rattle.word_grammar.specs.Grammar.{Word}
use Rattle.word_grammar.specs.Shown.{option_shown}
use Rattle.tool_words.specs.Items as meant

-- words as lists of bytes
abbrev pub texts : List (String Global) → List Word
texts words = map string_bytes words

-- a command and the words after those that name it
abbrev pub chosen_shown : CommandName × Bor (List (String Global)) → CommandName × List Word
chosen_shown chosen = (chosen.0, texts chosen.1.now)

-- what a word says
abbrev pub said_shown : Said → meant.Said
said_shown word.Ends = meant.Ends
said_shown word.Plain = meant.Plain
said_shown (word.Whole text value) = meant.Whole text.now value.now
said_shown (word.Open option) = meant.Open (option_shown option)

-- an item as it is meant
abbrev pub item_shown : Item → meant.Item
item_shown (item.Value text value) = meant.Value text.now value.now
item_shown (item.Operand word) = meant.Operand word.now

-- items as they are meant
abbrev pub items_shown : List Item → List meant.Item
items_shown items = map item_shown items

-- an item and the words after it
abbrev pub next_shown : Next → meant.Item × List Word
next_shown next = (item_shown next.item, texts next.rest.now)
