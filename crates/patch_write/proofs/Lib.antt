pub mod Built
pub mod ElementLists
pub mod FreePrefix
pub mod Numbers
pub mod PrefixSets
pub mod Words
pub mod WrittenNames
