mod Histories
mod ImageLists
mod Images
mod Pieces
mod Places
mod Readings
mod SentLists
mod Steps
